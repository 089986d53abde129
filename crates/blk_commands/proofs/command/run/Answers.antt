-- What was done, by what the words ask for.
use Rattle.std.proofs.Common.{rules, ◌≡◌, ◌∙◌, [], None, Some, inl, inr, refl, sym, ap, subst}
use Rattle.std.specs.Io.KnownBytes.{Appends}
use Rattle.blk_commands.specs.Faults.{command_fault_text, fault_status}
use Rattle.blk_commands.specs.Outcomes.{Does, usage}
use Rattle.blk_commands.specs.Plays.{line_of}
use Rattle.blk_commands.specs.Requests.{request_of, text_of, texts_of}
use Rattle.blk_commands.proofs.OutcomeLemmas.{status_two}
use Rattle.blk_commands.proofs.TellLemmas.{appends_nothing, part_nothing}
use Rattle.blk_commands.proofs.command.run.Goals as goal

pub returns-in_default-clause-done : goal.returns-in_default-clause-done
returns-in_default-clause-done g c other =
    let wrong : request_of (text_of c.args.setting) (texts_of c.args.words.now) ≡ None =
    sym c.asked.ensures ∙ c.in_default.is in (
      record {
        output = [];
        faults = line_of usage;
        does = subst (λ r. Does r (g.R.Read.remaining c.args.input.now)
            (g.R.Read.remaining c.args.input.now) 2 [] (line_of usage)) (sym wrong)
            (refl, refl, refl);
        written = appends_nothing (g.W.Write.contents c.args.output.now);
        told = c.tell.ensures.part;
      },
      search rules,
    )

pub returns-in-Ok-clause-done : goal.returns-in-Ok-clause-done
returns-in-Ok-clause-done g c other =
    let right : request_of (text_of c.args.setting) (texts_of c.args.words.now)
    ≡ Some c.in-Some.request = sym c.asked.ensures ∙ c.in-Some.is in
    let answer = c.in-Ok.ensures.answers in (
      record {
        output = answer.0;
        faults = [];
        does = subst (λ r. Does r (g.R.Read.remaining c.args.input.now)
            (g.R.Read.remaining c.answer.new.input) 0 answer.0 []) (sym right)
            (inl (refl, answer.1, refl));
        written = answer.2;
        told = part_nothing (g.F.Write.contents c.args.faults.now) [];
      },
      appends_nothing (g.F.Write.contents c.args.faults.now),
    )

pub returns-in-Err-clause-done : goal.returns-in-Err-clause-done
returns-in-Err-clause-done g c other =
    let right : request_of (text_of c.args.setting) (texts_of c.args.words.now)
    ≡ Some c.in-Some.request = sym c.asked.ensures ∙ c.in-Some.is in
    let two : fault_status c.in-Err.fault ≡ 2 =
    status_two c.in-Err.fault (λ e. other (c.status.ensures ∙ e)) in (
      record {
        output = [];
        faults = line_of (command_fault_text c.in-Err.fault);
        does = subst (λ r.
            Does r (g.R.Read.remaining c.args.input.now) (g.R.Read.remaining c.answer.new.input)
            c.status.result [] (line_of (command_fault_text c.in-Err.fault))) (sym right)
            (inr (
              c.in-Err.fault,
              c.status.ensures ∙ two,
              refl,
              two,
              c.in-Err.ensures.answers.1,
              refl,
            ));
        written = subst (λ known. Appends (g.W.Write.contents c.args.output.now) known [])
            (sym (ap g.W.Write.contents (c.in-Err.ensures.untouched two)))
            (appends_nothing (g.W.Write.contents c.args.output.now));
        told = c.tell-in-Err.ensures.part;
      },
      search rules,
    )

pub returns-in-Err-clause-failed : goal.returns-in-Err-clause-failed
returns-in-Err-clause-failed g c one = (
  record {
    fault = c.in-Err.fault;
    status = sym c.status.ensures ∙ one;
    left = c.in-Err.ensures.answers.0;
    told = c.tell-in-Err.ensures.part;
  },
  search rules,
)
