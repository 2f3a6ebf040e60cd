-- The shape comes first, then the rules, then the fields.
use Rattle.std.proofs.Common.{Some, true, ◌≡◌, sym, ◌∙◌, arith}
use Rattle.std.proofs.lemmas.Grind.{common_steps}
use Rattle.der.specs.Forms.{paper}
use Rattle.extensions.specs.Extensions.{extensions_shaped}
use Rattle.crl.specs.Shape.{parts_of}
use Rattle.crl.proofs.OwnExtensions.{own-shaped}
use Rattle.crl.proofs.Runs.{profile-shapeless, profile-misshapen, profile-refused, profile-passed}
use Rattle.crl.proofs.profile.Goals as goal
use Rattle.crl.proofs.profile.Goals.{In-Some, In_ok-rule}

parts : (c : In-Some) → parts_of paper c.args.item.now ≡ Some c.in-Some.l
parts c = grind (arith, common_steps)

shaped : (c : In_ok-rule) → extensions_shaped paper c.args.item.now c.in-Some.l.extensions ≡ true
shaped c = let same = own-shaped _ _ c.own_of-own.ensures in grind (arith, common_steps)

pub returns-in_default : goal.returns-in_default
returns-in_default c = grind (arith, common_steps, profile-shapeless)

pub returns-in_err-rule : goal.returns-in_err-rule
returns-in_err-rule c = let same = own-shaped _ _ c.own_of-own.ensures in grind (arith, common_steps, profile-misshapen)

pub returns-in_err-rules_2_to_8 : goal.returns-in_err-rules_2_to_8
returns-in_err-rules_2_to_8 c =
    let at = goal.at.returns-in_err-rules_2_to_8 c in
    let rules = sym c.rules_2_to_8.ensures ∙ c.in_err-rules_2_to_8.was in
    let told = profile-refused _ (parts at.In-Some) (shaped at.In_ok-rule) c.readings_of-r.ensures rules in
    grind (arith, common_steps)

pub returns : goal.returns
returns c =
    let at = goal.at.returns c in
    let rules = sym c.rules_2_to_8.ensures ∙ c.in_ok-rules_2_to_8.was in
    rw c.fields_of.ensures (profile-passed _ (parts at.In-Some) (shaped at.In_ok-rule) c.readings_of-r.ensures rules)
