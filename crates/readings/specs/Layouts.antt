-- A layout that has grown for all items, and the code in which it is written: draft and code agree.
use Rattle.std.specs.Prelude.{◌≡◌, ℕ, ◌≤◌, true, ◌↔◌, List, length, ℤ, Some, Option, ◌≢◌}
use Rattle.std.proofs.Math.IntN.{sub_ℕ}
use Rattle.isa.specs.declared.jumps.Jump.{Jump}
use Rattle.isa.specs.declared.jumps.Jump.TheVariants.{Branch}
use Rattle.isa.specs.Laws.{Leads}
use Rattle.readings.specs.Draft.{Truth, Draft, is_kept}
use Rattle.readings.specs.Code.{Same}
use Rattle.readings.specs.Layout.{waits, fixed, Body, bytes, refers, jump, veneer, kept, blank, Cell, Each, free, Labels, Resolves}
use Rattle.readings.specs.Growth.{Grows}

-- the bytes of a cell of a size at an offset are those of the layout: nothing waits, branches and veneers are found, and uses read their
-- targets
abbrev pub Written : (ℕ → Option Jump) → (ℕ → ℕ → ℤ) → Body → ℕ → ℕ → Type 0
Written found reads bytes q k = Unit {0}
Written found reads (refers c l (waits m)) q k = ⊥
Written found reads (refers c l (fixed n)) q k = reads c q ≡ sub_ℕ n q
Written found reads (jump ρ (waits m)) q k = ⊥
Written found reads (jump ρ (fixed n)) q k = found q ≡ Some (Branch ρ k (sub_ℕ n q))
Written found reads (veneer c (waits m)) q k = ⊥
Written found reads (veneer c (fixed n)) q k = Leads (found q) (sub_ℕ n q)
Written found reads (kept l) q k = Unit {0}
Written found reads blank q k = Unit {0}

abbrev pub AllWritten : (ℕ → Option Jump) → (ℕ → ℕ → ℤ) → List Cell → Type 0
AllWritten found reads L = Each (λ c q. Written found reads c.body q c.size) L

abbrev pub LayoutsAgree : Type 0
LayoutsAgree = (D : Draft) (L : List Cell) (T : Labels) (t f : ℕ) → Grows D L T t f → length D.items ≤ t
    → ((l : ℕ) → is_kept D l ≡ true → T l ≢ free)
    → (found : ℕ → Option Jump) (reads : ℕ → ℕ → ℤ) → AllWritten found reads L
    → (place : ℕ → Option ℕ) → ((l q : ℕ) → Resolves T l q ↔ (place l ≡ Some q))
    → (τ : Truth) → Same D place found reads τ
