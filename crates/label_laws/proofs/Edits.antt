-- Edits of one label keep a table orderly, and no label goes forward.
use Rattle.std.proofs.Common.{◌≡◌, ℕ, zero, suc, ◌+◌, ◌<◌, Bool, false, ◌≢◌, ◌⊎◌, List, [], ◌∷◌, ◌++◌, map, length, get_or, set, sym, refl, ap, ◌∙◌, subst, inl, inr, arith, length-set}
use Rattle.std.proofs.lemmas.Bool.{cases_eq}
use Rattle.std.proofs.lemmas.Option.{none-some}
use Rattle.std.proofs.lemmas.List.{length_push, get_or_append_left, get_or-set_same, get_or-set_other}
use Rattle.std.proofs.ByRecursion.{All-push, All-set, All-weaker}
use Rattle.model.specs.declared.rows.Label.{Label}
use Rattle.model.specs.declared.rows.Place.TheVariants.{Nowhere}
use Rattle.model.specs.Capacities.{max_labels}
use Rattle.model.specs.Labels.{offset_in, alias_in, unbound, label_row, bound_at}
use Rattle.label_laws.specs.Moves.{Moves, Later}
use Rattle.label_laws.specs.Sound.{Row, Orderly}
use Rattle.label_laws.proofs.Orderly.{same_moves, same_aliases}

-- an edit of a table
pub record Keeps (ls us : List Label) : Type 0 where
  pub orderly : Orderly us
  pub later : Later ls us

-- one label more
pushed_alias : (r : Bool) (ls : List Label) (l : ℕ) → alias_in (label_row (ls ++ unbound r ∷ []) l).place ≡ alias_in (label_row ls l).place
pushed_alias r [] zero = refl
pushed_alias r [] (suc l) = refl
pushed_alias r (x ∷ ls) zero = refl
pushed_alias r (x ∷ ls) (suc l) = pushed_alias r ls l

wider : (n : ℕ) (x : Label) → Row n x → Row (n + 1) x
wider n x (inl e) = inl e
wider n x (inr r) = inr (record { to = r.to; alias = r.alias; among = omega (arith, r.among) })

pub pushed_row : (ls : List Label) (r : Bool) (l : ℕ) → l < length ls → label_row (ls ++ unbound r ∷ []) l ≡ label_row ls l
pushed_row ls r l h = get_or_append_left ls (unbound r ∷ []) (unbound false) l h

pub pushed_keeps : (ls : List Label) (r : Bool) → length ls < max_labels → Orderly ls → Keeps ls (ls ++ unbound r ∷ [])
pushed_keeps ls r h o = record {
  orderly = record {
    few = rw length_push (omega arith);
    rows = rw length_push (All-push (Row (length ls + 1)) ls (unbound r) (All-weaker (Row (length ls)) (Row (length ls + 1)) (wider (length ls)) ls o.rows) (inl refl));
    ends = λ l. ((o.ends l).0, same_aliases ls (ls ++ unbound r ∷ []) (pushed_alias r ls) (o.ends l).1);
  };
  later = record {
    more = rw length_push (omega arith);
    moves = λ l k. same_moves _ _ (pushed_row ls r l k);
  };
}

-- one label bound
pub set_field : {A : Type 0} (g : Label → A) (ls : List Label) (l k : ℕ) (x : Label) → g x ≡ g (label_row ls l) → g (label_row (set ls l x) k) ≡ g (label_row ls k)
set_field g [] l k x e = refl
set_field g (y ∷ ls) zero zero x e = e
set_field g (y ∷ ls) zero (suc k) x e = refl
set_field g (y ∷ ls) (suc l) zero x e = refl
set_field g (y ∷ ls) (suc l) (suc k) x e = set_field g ls l k x e

pub bound_row : (ls : List Label) (l at k : ℕ) → k ≢ l → label_row (bound_at ls l at) k ≡ label_row ls k
bound_row ls l at k h = get_or-set_other ls l k _ (unbound false) h

pub bound_keeps : (ls : List Label) (l at : ℕ) → (label_row ls l).place ≡ Nowhere → Orderly ls → Keeps ls (bound_at ls l at)
bound_keeps ls l at nowhere o = record {
  orderly = record {
    few = rw length-set o.few;
    rows = rw length-set (All-set (Row (length ls)) ls l _ (inl refl) o.rows);
    ends = λ k. ((o.ends k).0, same_aliases ls (bound_at ls l at) (λ j. set_field (λ (x : Label). alias_in x.place) ls l j _ (sym (ap alias_in nowhere))) (o.ends k).1);
  };
  later = record { more = rw length-set (omega arith); moves = λ k h. by k h (cases_eq k l) };
}
  where
    here_too : l < length ls → Moves (label_row ls l) (label_row (bound_at ls l at) l)
    here_too h = record { stays = λ a e. absurd (none-some a (ap alias_in (sym nowhere ∙ e))); falls = λ from e. absurd (none-some from (ap offset_in (sym nowhere ∙ e))); reserved = ap (λ (x : Label). x.reserved) (get_or-set_same ls l _ (unbound false) h) }

    by : (k : ℕ) → k < length ls → (k ≡ l) ⊎ (k ≡ l → ⊥) → Moves (label_row ls k) (label_row (bound_at ls l at) k)
    by k h (inl e) = subst (λ (j : ℕ). j < length ls → Moves (label_row ls j) (label_row (bound_at ls l at) j)) (sym e) here_too h
    by k h (inr n) = same_moves _ _ (bound_row ls l at k n)

-- every row edited
pub mapped_row : (f : Label → Label) → f (unbound false) ≡ unbound false → (ls : List Label) (l : ℕ) → label_row (map f ls) l ≡ f (label_row ls l)
mapped_row f e ls l = subst (λ (d : Label). get_or (map f ls) l d ≡ f (label_row ls l)) e (go ls l)
  where
    go : (xs : List Label) (k : ℕ) → get_or (map f xs) k (f (unbound false)) ≡ f (get_or xs k (unbound false))
    go [] k = refl
    go (x ∷ xs) zero = refl
    go (x ∷ xs) (suc k) = go xs k
