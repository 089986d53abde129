-- What each kind of line adds.
use Rattle.std.proofs.Common.{rules, ◌≡◌, ◌∙◌, ap, sym, Some, refl, map}
use Rattle.blk_commands.specs.Lines.{is_minus, saying_of}
use Rattle.blk_commands.specs.declared.line.Saying.TheVariants.{Nothing, Setting, Plan, Does}
use Rattle.blk_commands.proofs.ScriptLemmas.{adds_nothing, adds_setting, adds_plan}
use Rattle.blk_commands.proofs.ScriptLemmas.{adds_instruction}
use Rattle.blk_commands.proofs.script.Script.add.Goals as goal

pub returns-in-Some-Nothing : goal.returns-in-Some-Nothing
returns-in-Some-Nothing c before is =
    let said : saying_of c.args.line.now ≡ Some Nothing =
    sym c.in_ok-saying_of.ensures
    ∙ (c.in-Some-Nothing.is ∙ ap (λ s. Some s) c.in-Some-Nothing.field-0-is) in
    adds_nothing before c.args.line.now c.args.self.now said is

pub returns-in_ok-from_str-in-Some-Setting : goal.returns-in_ok-from_str-in-Some-Setting
returns-in_ok-from_str-in-Some-Setting c before is =
    let said : saying_of c.args.line.now ≡ Some Setting =
    sym c.in_ok-saying_of.ensures
    ∙ (c.in-Some-Setting.is ∙ ap (λ s. Some s) c.in-Some-Setting.field-0-is) in
    adds_setting before c.args.line.now c.args.self.now
    (record {
      setting = Some c.in_ok-from_str-in-Some-Setting.field-0;
      plan = c.args.self.now.plan;
      instructions = c.args.self.now.instructions;
    })
    said
    (sym c.if-is_empty.ensures) (search (rules, c.if-is_none.ensures))
    (ap (λ t. Some t) (c.in_ok-from_str-in-Some-Setting.ensures.ok ∙ c.text_of.ensures))
    refl refl is

pub returns-in_ok-self-in-Some-Plan : goal.returns-in_ok-self-in-Some-Plan
returns-in_ok-self-in-Some-Plan c before is =
    let said : saying_of c.args.line.now ≡ Some Plan =
    sym c.in_ok-saying_of.ensures
    ∙ (c.in-Some-Plan.is ∙ ap (λ s. Some s) c.in-Some-Plan.field-0-is) in
    adds_plan before c.args.line.now c.args.self.now
    (record {
      setting = c.args.self.now.setting;
      plan = c.in_ok-self-in-Some-Plan.field-0;
      instructions = c.args.self.now.instructions;
    })
    said
    (sym c.if-is_empty-2.ensures) (sym c.if-is_empty-3.ensures)
    (c.in_ok-self-in-Some-Plan.ensures ∙ ap (map is_minus) c.text_of-in-Some-Plan.ensures) refl refl
    is

pub returns-in_ok-push-in-Some-Does : goal.returns-in_ok-push-in-Some-Does
returns-in_ok-push-in-Some-Does c before is =
    let said : saying_of c.args.line.now ≡ Some (Does c.in-Some-Does.instruction) =
    sym c.in_ok-saying_of.ensures
    ∙ (c.in-Some-Does.is ∙ ap (λ s. Some s) c.in-Some-Does.field-0-is) in
    adds_instruction before c.args.line.now c.args.self.now
    (record {
      setting = c.args.self.now.setting;
      plan = c.args.self.now.plan;
      instructions = c.push.new.self;
    })
    c.in-Some-Does.instruction said refl refl c.in_ok-push-in-Some-Does.ensures.items is
