-- Each reading is the one that the definition makes.
use native.Mathlib.Omega.{arith}
use Rattle.extensions.specs.Extensions.{oid_of, held_of}
use Rattle.certificate.specs.Keys.{subject_key, authority_key}
use Rattle.certificate.specs.Rules.{readings_of}
use Rattle.certificate.proofs.rules.readings_of.Goals as goal

pub returns : goal.returns
unfolding readings_of subject_key authority_key oid_of held_of
returns c =
    let own = c.subject_key.ensures _ (c.requires.each 0 (omega arith)) in
    let authority = c.authority_key.ensures _ (c.requires.each 21 (omega arith)) in
    cc
