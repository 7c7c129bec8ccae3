use Rattle.std.proofs.Common.{◌≡◌, ℕ, ◌+◌, ◌*◌, ◌<◌, Option, arith, rules}
use Rattle.std.proofs.lemmas.Iterator.{YieldsList-from_slice}
use Rattle.std.proofs.lemmas.Iterator.Adapters.{fits_from_length, at_most_from_yields_List}
use Rattle.std.specs.Iterator.Runs.{EachRunFrom, WholeRun}
use Rattle.std.specs.List.{fold}
use Rattle.slices.proofs.constants.constants_room.Goals as goal

-- a sum over a run is below what bounds the sum over each
below : {S : Type 0} (steps : S → Option ℕ → S → Type 0) (s : S) (r top : ℕ) → WholeRun steps s (λ p. r ≡ fold (λ a x. a + x) 0 p.items) → EachRunFrom steps s (λ p. fold (λ a x. a + x) 0 p.items < top) → r < top
below steps s r top w h = omega (arith, w.3, h w.0 w.0.seen w.1)

-- each item is at most 8589934592, and there are at most 512
pub returns-clause-small : goal.returns-clause-small
returns-clause-small c =
    let h = below _ _ c.sum.result (512 * 8589934592 + 1) (c.sum.ensures.runs tt) (fits_from_length _ _ 512 _ (at_most_from_yields_List (YieldsList-from_slice c.args.numbers.now cc) c.requires) c.map.ensures.closure (omega arith) (λ x r q k. search rules)) in
    omega (arith, h)
