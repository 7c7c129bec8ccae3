-- Code that is written over.
use Rattle.std.proofs.Common.{◌≡◌, ℕ, ◌+◌, ◌≤◌, ◌⊎◌, List, [], ◌∷◌, length, take, drop, ◌∙◌, inl, inr, arith, length-append, length-drop, length-take, rules}
use Rattle.std.proofs.lemmas.List.{places, same_lists, take-append-le, take-take}
use Rattle.model.specs.declared.rows.PlacedConstant.{PlacedConstant}
use Rattle.model.specs.State.{State}
use Rattle.model.specs.Code.{overwritten}
use Rattle.model.specs.Finish.{pooled, filled}

-- bytes within the code leave its length
pub length-overwritten : (code bytes : List ℕ) (at : ℕ) → at + length bytes ≤ length code → length (overwritten code at bytes) ≡ length code
length-overwritten code bytes at h = simp (length-append, length-take, length-drop) (omega arith)

-- no bytes make it shorter
pub overwritten_longer : (code bytes : List ℕ) (at : ℕ) → length code ≤ length (overwritten code at bytes)
overwritten_longer code bytes at = simp (length-append, length-take, length-drop) (omega arith)

pub filled_longer : (s : State) (pool : List ℕ) (ps : List PlacedConstant) (code : List ℕ) → length code ≤ length (filled s pool ps code)
filled_longer s pool [] code = omega arith
filled_longer s pool (p ∷ ps) code =
    let x = overwritten code p.offset (pooled s pool p.number) in
    omega (arith, overwritten_longer code (pooled s pool p.number) p.offset, filled_longer s pool ps x)

-- what lies before stays
pub overwritten_before : (code bytes : List ℕ) (at n : ℕ) → n ≤ at → at ≤ length code → take n (overwritten code at bytes) ≡ take n code
overwritten_before code bytes at n h k = take-append-le n (take at code) _ (simp length-take (omega arith)) ∙ take-take n at code h

-- bytes that lie apart stay
pub overwritten_apart : (code bytes : List ℕ) (at from n : ℕ) → at + length bytes ≤ length code → (from + n ≤ at) ⊎ (at + length bytes ≤ from) → take n (drop from (overwritten code at bytes)) ≡ take n (drop from code)
overwritten_apart code bytes at from n h (inl before) = same_lists _ _ (search (rules, places)) (λ k d l. grind (arith, places))
overwritten_apart code bytes at from n h (inr after) = same_lists _ _ (search (rules, places)) (λ k d l. grind (arith, places))
