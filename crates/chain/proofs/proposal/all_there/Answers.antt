-- Each place is tested.
use mathlib.Core.Path.{sym, ◌∙◌}
use lib.Dec.{ltb}
use Rattle.std.proofs.Common.{rules, tests}
use Rattle.std.proofs.lemmas.Iterator.{YieldsList-from_slice}
use Rattle.std.proofs.lemmas.Iterator.Search.{all_from_yields_List}
use Rattle.chain.proofs.Proposals.{inside_of}
use Rattle.chain.proofs.proposal.all_there.Goals as goal

pub returns : goal.returns
returns c =
    let xs = c.args.places.now in
    let n = c.args.count in
    all_from_yields_List (λ p. ltb p n) _ _ _ c.all.ensures.ran (YieldsList-from_slice xs cc) (λ x b q k. search (rules, tests))
    ∙ sym (inside_of n xs)
