-- A fact about a choice follows from the fact about either way.
use Rattle.std.proofs.Common.{Bool, true, false, cond}

pub either : {X : Type 0} (P : X → Type 0) (b : Bool) (x y : X) → P x → P y → P (cond b x y)
either P true x y p q = p
either P false x y p q = q

-- the same of two choices by one test
pub both : {X Y : Type 0} (P : X → Y → Type 0) (b : Bool) (x y : X) (v w : Y) → P x v → P y w → P (cond b x y) (cond b v w)
both P true x y v w p q = p
both P false x y v w p q = q
