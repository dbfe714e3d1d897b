use Rattle.std.proofs.Common.{◌≡◌, get_or, refl, ◌∙◌, arith, ltb-true}
use Rattle.std.proofs.lemmas.List.{get_or_past}
use Rattle.frames.specs.Frame.{open_kind, arm_kind, cancel_kind, advance_kind, close_kind, purpose_kind}
use Rattle.frames.proofs.FrameKinds.{by_kind, unknown_kind}
use Rattle.frames.proofs.parse.request_of.Goals as goal

pub returns-in-1 : goal.returns-in-1
returns-in-1 c = c.open.ensures ∙ by_kind c.args.frame.now 1 open_kind refl (omega arith) (omega arith)

pub returns-in-2 : goal.returns-in-2
returns-in-2 c = c.arm.ensures ∙ by_kind c.args.frame.now 2 arm_kind refl (omega arith) (omega arith)

pub returns-in-3 : goal.returns-in-3
returns-in-3 c = c.cancel.ensures ∙ by_kind c.args.frame.now 3 cancel_kind refl (omega arith) (omega arith)

pub returns-in-4 : goal.returns-in-4
returns-in-4 c = c.advance.ensures ∙ by_kind c.args.frame.now 4 advance_kind refl (omega arith) (omega arith)

pub returns-in-5 : goal.returns-in-5
returns-in-5 c = c.close.ensures ∙ by_kind c.args.frame.now 5 close_kind refl (omega arith) (omega arith)

pub returns-in-6 : goal.returns-in-6
returns-in-6 c = c.arm_by_purpose.ensures ∙ by_kind c.args.frame.now 6 purpose_kind refl (omega arith) (omega arith)

pub returns-in_default : goal.returns-in_default
returns-in_default c =
    let e : get_or c.args.frame.now 0 0 ≡ 0 = get_or_past c.args.frame.now 0 0 (omega (arith, ltb-true)) in
    unknown_kind c.args.frame.now (λ b l h g. omega arith)

pub returns-in_default-2 : goal.returns-in_default-2
returns-in_default-2 c = unknown_kind c.args.frame.now (λ b l h g. omega arith)
