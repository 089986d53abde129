use Rattle.futures.specs.Task.{IsArmed}
use Rattle.blocking_unblock.proofs.Crossings.{crossed_plain, crossed_noted}
use Rattle.blocking_unblock.proofs.Rounds.{round_plain, round_noted}
use Rattle.blocking_unblock.proofs.unblock.Unblock.do_next.Goals as goal

pub returns-in-Some-clause-stands : goal.returns-in-Some-clause-stands
returns-in-Some-clause-stands g c =
    (round_noted _ _ _ (IsArmed c.args.cx.now) (IsArmed c.act-answer.new.cx) _ _ _ _ _ _
    _ _ _ _ _ c.requires.going c.requires.stands c.next.ensures c.act-answer.ensures.does
    c.act-answer.ensures.brings c.in-Some.is c.answer.ensures c.answer-in-Some.ensures).stands

pub returns-in_default-clause-stands : goal.returns-in_default-clause-stands
returns-in_default-clause-stands g c =
    (round_plain _ _ _ (IsArmed c.args.cx.now) (IsArmed c.act-answer.new.cx) _ _
    _ _ _ _ _ _ _ c.requires.going c.requires.stands c.next.ensures c.act-answer.ensures.does
    c.act-answer.ensures.brings c.in_default.is c.answer.ensures).stands

pub returns-in-Some-clause-reaches : goal.returns-in-Some-clause-reaches
returns-in-Some-clause-reaches g c =
    (round_noted _ _ _ (IsArmed c.args.cx.now) (IsArmed c.act-answer.new.cx)
    _ _ _ _ _ _ _ _ _ _ _ c.requires.going c.requires.stands c.next.ensures
    c.act-answer.ensures.does c.act-answer.ensures.brings c.in-Some.is c.answer.ensures
    c.answer-in-Some.ensures).reaches

pub returns-in_default-clause-reaches : goal.returns-in_default-clause-reaches
returns-in_default-clause-reaches g c =
    (round_plain _ _ _ (IsArmed c.args.cx.now) (IsArmed c.act-answer.new.cx) _ _
    _ _ _ _ _ _ _ c.requires.going c.requires.stands c.next.ensures c.act-answer.ensures.does
    c.act-answer.ensures.brings c.in_default.is c.answer.ensures).reaches

pub returns-in-Some-clause-kept_open : goal.returns-in-Some-clause-kept_open
returns-in-Some-clause-kept_open g c =
    (round_noted _ _ _ (IsArmed c.args.cx.now) (IsArmed c.act-answer.new.cx)
    _ _ _ _ _ _ _ _ _ _ _ c.requires.going c.requires.stands c.next.ensures
    c.act-answer.ensures.does c.act-answer.ensures.brings c.in-Some.is c.answer.ensures
    c.answer-in-Some.ensures).kept_open

pub returns-in_default-clause-kept_open : goal.returns-in_default-clause-kept_open
returns-in_default-clause-kept_open g c =
    (round_plain _ _ _ (IsArmed c.args.cx.now) (IsArmed c.act-answer.new.cx) _ _
    _ _ _ _ _ _ _ c.requires.going c.requires.stands c.next.ensures c.act-answer.ensures.does
    c.act-answer.ensures.brings c.in_default.is c.answer.ensures).kept_open

pub returns-in-Some-clause-keeps : goal.returns-in-Some-clause-keeps
returns-in-Some-clause-keeps g c =
    (round_noted _ _ _ (IsArmed c.args.cx.now) (IsArmed c.act-answer.new.cx)
    _ _ _ _ _ _ _ _ _ _ _ c.requires.going c.requires.stands c.next.ensures
    c.act-answer.ensures.does c.act-answer.ensures.brings c.in-Some.is c.answer.ensures
    c.answer-in-Some.ensures).keeps_first

pub returns-in_default-clause-keeps : goal.returns-in_default-clause-keeps
returns-in_default-clause-keeps g c =
    (round_plain _ _ _ (IsArmed c.args.cx.now) (IsArmed c.act-answer.new.cx) _ _
    _ _ _ _ _ _ _ c.requires.going c.requires.stands c.next.ensures c.act-answer.ensures.does
    c.act-answer.ensures.brings c.in_default.is c.answer.ensures).keeps_first

pub returns-in-Some-clause-brings : goal.returns-in-Some-clause-brings
returns-in-Some-clause-brings g c =
    (round_noted _ _ _ (IsArmed c.args.cx.now) (IsArmed c.act-answer.new.cx) _ _ _ _ _ _
    _ _ _ _ _ c.requires.going c.requires.stands c.next.ensures c.act-answer.ensures.does
    c.act-answer.ensures.brings c.in-Some.is c.answer.ensures c.answer-in-Some.ensures).brings

pub returns-in_default-clause-brings : goal.returns-in_default-clause-brings
returns-in_default-clause-brings g c =
    (round_plain _ _ _ (IsArmed c.args.cx.now) (IsArmed c.act-answer.new.cx) _ _
    _ _ _ _ _ _ _ c.requires.going c.requires.stands c.next.ensures c.act-answer.ensures.does
    c.act-answer.ensures.brings c.in_default.is c.answer.ensures).brings

pub returns-in-Some-clause-call_same : goal.returns-in-Some-clause-call_same
returns-in-Some-clause-call_same g c =
    (round_noted _ _ _ (IsArmed c.args.cx.now) (IsArmed c.act-answer.new.cx)
    _ _ _ _ _ _ _ _ _ _ _ c.requires.going c.requires.stands c.next.ensures
    c.act-answer.ensures.does c.act-answer.ensures.brings c.in-Some.is c.answer.ensures
    c.answer-in-Some.ensures).call_same

pub returns-in_default-clause-call_same : goal.returns-in_default-clause-call_same
returns-in_default-clause-call_same g c =
    (round_plain _ _ _ (IsArmed c.args.cx.now) (IsArmed c.act-answer.new.cx) _ _
    _ _ _ _ _ _ _ c.requires.going c.requires.stands c.next.ensures c.act-answer.ensures.does
    c.act-answer.ensures.brings c.in_default.is c.answer.ensures).call_same

pub returns-in-Some-clause-crosses : goal.returns-in-Some-clause-crosses
returns-in-Some-clause-crosses g c = λ before crossing.
    crossed_noted _ _ _ _ (IsArmed c.act-answer.new.cx) _ _ _ before _ _ _ _ _ _ _ c.requires.going
    c.requires.stands c.next.ensures c.act-answer.ensures.does c.in-Some.is c.answer.ensures
    c.answer-in-Some.ensures crossing

pub returns-in_default-clause-crosses : goal.returns-in_default-clause-crosses
returns-in_default-clause-crosses g c = λ before crossing.
    crossed_plain _ _ _ _ (IsArmed c.act-answer.new.cx) _ _ _ before _ _ _ _ _ c.requires.going
    c.requires.stands c.next.ensures c.act-answer.ensures.does c.in_default.is c.answer.ensures
    crossing
