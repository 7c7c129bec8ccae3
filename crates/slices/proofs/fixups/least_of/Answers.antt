use Rattle.std.proofs.Common.{◌≡◌, ℕ, ◌≤◌, min, List, [], ◌∷◌, map, arith, rules}
use Rattle.std.specs.List.{fold}
use Rattle.model.specs.declared.rows.Fixup.{Fixup}
use Rattle.model.specs.Fixups.{least_deadline}
use Rattle.model.specs.State.{unknown}
use Rattle.slices.proofs.fixups.least_of.Goals as goal

least_known : (fs : List Fixup) → least_deadline fs ≤ unknown
least_known [] = omega arith
least_known (f ∷ fs) = omega (arith, least_known fs)

folded : (fs : List Fixup) (a : ℕ) → a ≤ unknown → fold (λ x y. min x y) a (map (λ (f : Fixup). f.deadline) fs) ≡ min a (least_deadline fs)
folded [] a h = omega (arith, h)
folded (f ∷ fs) a h = let e = folded fs (min a f.deadline) (omega (arith, h)) in omega (arith, e)

pub returns : goal.returns
returns c =
    let fs = c.args.fixups.now in
    let e : c.fold.result ≡ fold (λ x y. min x y) unknown (map (λ (f : Fixup). f.deadline) fs) = search rules in
    omega (arith, e, folded fs unknown (omega arith), least_known fs)
