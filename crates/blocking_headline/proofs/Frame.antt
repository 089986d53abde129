-- The whole page from its clauses.
use Rattle.std.proofs.Common.{ℕ, Bool, List, [], ◌∷◌, ◌++◌}
use mathlib.Core.Path.{subst}
use Rattle.blocking_world_laws.specs.Legal.{Legal}
use Rattle.blocking_world_laws.specs.declared.event.Moment.{Moment}
use Rattle.blocking_world_laws.proofs.Beginnings.{before}
use Rattle.blocking_headline.specs.Headline.{AtThis, Headline}
use Rattle.blocking_headline.proofs.All.{all}
use Rattle.blocking_headline.proofs.Copied.{copies}
use Rattle.blocking_headline.proofs.OwnerWakes.{owners}
use Rattle.blocking_headline.proofs.Sentences.{in_order, take, held, turn, within, reads, writes}
use Rattle.blocking_headline.proofs.TaskWakes.{tasks}

at : (setting : ℕ) (plan : List Bool) (past : List Moment) (now : Moment)
    → Legal setting plan (now ∷ past) → AtThis setting past now
at setting plan past now legal = record {
  in_order = in_order setting plan past now legal;
  take = take setting plan past now legal;
  held = held setting plan past now legal;
  turn = turn setting plan past now legal;
  within = within setting plan past now legal;
  reads = reads setting plan (now ∷ past) legal;
  writes = writes setting plan (now ∷ past) legal;
  all = all setting plan past now legal;
  owners = owners setting plan (now ∷ past) legal;
  tasks = tasks setting plan (now ∷ past) legal;
  copies = copies setting plan past now legal;
}

-- a legal past is legal at each beginning
pub cut_back : (setting : ℕ) (plan : List Bool) (later past : List Moment)
    → Legal setting plan (later ++ past) → Legal setting plan past
cut_back setting plan [] past legal = legal
cut_back setting plan (now ∷ later) past legal =
    cut_back setting plan later past (before setting plan (later ++ past) now legal)

pub whole : (setting : ℕ) (plan : List Bool) (seen : List Moment) → Legal setting plan seen → Headline setting seen
whole setting plan seen legal later past now split = at setting plan past now
    (cut_back setting plan later (now ∷ past) (subst (Legal setting plan) split legal))
