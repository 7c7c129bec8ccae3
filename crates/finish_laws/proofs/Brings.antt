-- What holds of the tables after a part of an island, unless it broke off.
use Rattle.std.proofs.Common.{◌≡◌, ℕ, Some, None, Option, refl, arith}
use Rattle.model.specs.declared.refusals.Refusal.{Refusal}
use Rattle.model.specs.State.{State}
use Rattle.model.specs.Progress.{Progress, go_on, then}

abbrev pub Through : (State → Type 0) → Option Refusal → State → Type 0
Through P None s = P s
Through P (Some e) s = Unit {0}

abbrev pub Brings : (State → Type 0) → Progress → Type 0
Brings P p = Through P p.failed p.state

-- one part after another
go_on_brings : (P Q : State → Type 0) (p : Progress) (next : State → Progress) (o : Option Refusal) → p.failed ≡ o → Through P o p.state → ((r : State) → P r → Brings Q (next r)) → Brings Q (go_on o p next)
go_on_brings P Q p next None e h f = f p.state h
go_on_brings P Q p next (Some x) e h f = rw e tt

pub then_brings : (P Q : State → Type 0) (p : Progress) (next : State → Progress) → Brings P p → ((r : State) → P r → Brings Q (next r)) → Brings Q (then p next)
then_brings P Q p next h f = go_on_brings P Q p next p.failed refl h f

through_on : (P : State → Type 0) (o : Option Refusal) (s : State) → o ≡ None → Through P o s → P s
through_on P None s e h = h
through_on P (Some x) s e h = let z : ◌≡◌ {A = ℕ} 0 1 = cc in absurd (omega arith)

-- it did not break off
pub brought : (P : State → Type 0) (p : Progress) → p.failed ≡ None → Brings P p → P p.state
brought P p e h = through_on P p.failed p.state e h

through_both : (P Q : State → Type 0) (o : Option Refusal) (s : State) → Through P o s → Q s → Through (λ r. P r × Q r) o s
through_both P Q None s h q = (h, q)
through_both P Q (Some x) s h q = tt

-- with what holds in any case
pub brings_both : (P Q : State → Type 0) (p : Progress) → Brings P p → Q p.state → Brings (λ r. P r × Q r) p
brings_both P Q p h q = through_both P Q p.failed p.state h q

through_weaker : (P Q : State → Type 0) → ((s : State) → P s → Q s) → (o : Option Refusal) (s : State) → Through P o s → Through Q o s
through_weaker P Q f None s h = f s h
through_weaker P Q f (Some x) s h = tt

pub brings_weaker : (P Q : State → Type 0) → ((s : State) → P s → Q s) → (p : Progress) → Brings P p → Brings Q p
brings_weaker P Q f p h = through_weaker P Q f p.failed p.state h
