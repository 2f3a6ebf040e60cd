-- The usual two are told at once; of others the pass tells the first three, and its slots the other two.
use mathlib.Core.Path.{◌∙◌}
use native.Mathlib.Omega.{arith}
use Rattle.der.specs.Forms.{paper}
use Rattle.extensions.specs.Extensions.{oid_of, lookup_of, held_of}
use Rattle.crl.specs.Own.{own_of}
use Rattle.crl.specs.Rules.{key_there, number_there}
use Rattle.crl.proofs.OwnExtensions.{there-told}
use Rattle.crl.proofs.own.own_of.Goals as goal

pub returns-then-usual_pair : goal.returns-then-usual_pair
returns-then-usual_pair c = c.usual_pair.ensures c.if-usual_pair.true

pub returns : goal.returns
unfolding own_of key_there number_there oid_of held_of
returns c =
    let seen = c.one_pass-seen.ensures in
    let s = c.args.item.now in
    let e = c.args.extensions in
    rw (
      seen.shaped,
      seen.marked,
      seen.doubled,
      c.is_some.ensures ∙ there-told (lookup_of paper s e (oid_of 21)) (seen.placed.each 21 (omega arith)),
      c.is_some-2.ensures ∙ there-told (lookup_of paper s e (oid_of 6)) (seen.placed.each 6 (omega arith)),
    )
