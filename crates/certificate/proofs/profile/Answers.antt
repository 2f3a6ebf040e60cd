-- The rules are tried in their order, so the first that is broken is told.
use Rattle.std.proofs.Common.{Some, true, ◌≡◌, sym, ◌∙◌, arith}
use Rattle.std.proofs.lemmas.Grind.{common_steps}
use Rattle.der.specs.Forms.{paper}
use Rattle.extensions.specs.Extensions.{extensions_shaped}
use Rattle.certificate.specs.Shape.{parts_of}
use Rattle.certificate.proofs.Runs.{profile-shapeless, profile-misshapen, profile-early, profile-late, profile-passed}
use Rattle.certificate.proofs.profile.Goals as goal
use Rattle.certificate.proofs.profile.Goals.{In-Some, In_ok-rule}

parts : (c : In-Some) → parts_of c.args.item.now ≡ Some c.in-Some.l
parts c = grind (arith, common_steps)

shaped : (c : In_ok-rule) → extensions_shaped paper c.args.item.now c.in-Some.l.extensions ≡ true
shaped c = grind (arith, common_steps)

pub returns-in_default : goal.returns-in_default
returns-in_default c = grind (arith, common_steps, profile-shapeless)

pub returns-in_err-rule : goal.returns-in_err-rule
returns-in_err-rule c = grind (arith, common_steps, profile-misshapen)

pub returns-in_err-rules_2_to_8 : goal.returns-in_err-rules_2_to_8
returns-in_err-rules_2_to_8 c =
    let at = goal.at.returns-in_err-rules_2_to_8 c in
    let early = sym c.rules_2_to_8.ensures ∙ c.in_err-rules_2_to_8.was in
    let told = profile-early _ c.args.role (parts at.In-Some) (shaped at.In_ok-rule) c.readings_of-r.ensures early in
    grind (arith, common_steps)

pub returns-in_err-rules_9_to_14 : goal.returns-in_err-rules_9_to_14
returns-in_err-rules_9_to_14 c =
    let at = goal.at.returns-in_err-rules_9_to_14 c in
    let early = sym c.rules_2_to_8.ensures ∙ c.in_ok-rules_2_to_8.was in
    let late = sym (c.rules_9_to_14.ensures _ c.one_pass-seen.ensures.placed c.one_pass-seen.ensures.critical) ∙ c.in_err-rules_9_to_14.was in
    let told = profile-late _ c.args.role (parts at.In-Some) (shaped at.In_ok-rule) c.readings_of-r.ensures early late in
    grind (arith, common_steps)

pub returns : goal.returns
returns c =
    let at = goal.at.returns c in
    let early = sym c.rules_2_to_8.ensures ∙ c.in_ok-rules_2_to_8.was in
    let late = sym (c.rules_9_to_14.ensures _ c.one_pass-seen.ensures.placed c.one_pass-seen.ensures.critical) ∙ c.in_ok-rules_9_to_14.was in
    rw c.fields_of.ensures (profile-passed _ _ (parts at.In-Some) (shaped at.In_ok-rule) c.readings_of-r.ensures early late)
