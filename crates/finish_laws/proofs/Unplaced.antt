-- Labels that an island has yet to bind, by edits of their table.
use Rattle.std.proofs.Common.{◌≡◌, ℕ, ◌<◌, ◌≤◌, Bool, true, false, ◌≢◌, ◌⊎◌, List, [], ◌∷◌, ◌++◌, map, length, Some, None, Option, sym, refl, ap, ◌∙◌, subst, inl, inr, arith, length-set}
use Rattle.std.proofs.lemmas.Bool.{cases_eq, cases_lt, false≢true}
use Rattle.std.proofs.lemmas.Option.{none-some, same_Some}
use Rattle.std.proofs.lemmas.List.{length_push, get_or_past, get_or_push, get_or_append_left, get_or-set_same}
use Rattle.model.specs.declared.rows.Label.{Label}
use Rattle.model.specs.declared.rows.Place.TheVariants.{Nowhere, At, AliasOf}
use Rattle.model.specs.Labels.{offset_in, alias_in, unbound, label_row, bound_at, bound_if, moved, aliased}
use Rattle.model.proofs.Labels.{eq-is_at, cases_at}
use Rattle.label_laws.proofs.Edits.{set_field, bound_row}
use Rattle.label_laws.proofs.Moved.{moved_other, moved_row}
use Rattle.label_laws.proofs.Redirected.{aliased_other, aliased_row}

-- reserved and unbound
pub record Unplaced (x : Label) : Type 0 where
  pub reserved : x.reserved ≡ true
  pub nowhere : x.place ≡ Nowhere

unreserved : (x : Label) → x.reserved ≡ false → Unplaced x → ⊥
unreserved x e u = false≢true (sym e ∙ u.reserved)

-- such a label is one of the table
pub unplaced_exists : (ls : List Label) (l : ℕ) → Unplaced (label_row ls l) → l < length ls
unplaced_exists ls l u = by (cases_lt l (length ls))
  where
    by : (l < length ls) ⊎ (length ls ≤ l) → l < length ls
    by (inl h) = h
    by (inr h) = absurd (unreserved (label_row ls l) (ap (λ (x : Label). x.reserved) (get_or_past ls l (unbound false) h)) u)

-- one label more
pushed_other : (ls : List Label) (r : Bool) (l : ℕ) → l ≢ length ls → label_row (ls ++ unbound r ∷ []) l ≡ label_row ls l
pushed_other ls r l n = by (cases_lt l (length ls))
  where
    by : (l < length ls) ⊎ (length ls ≤ l) → label_row (ls ++ unbound r ∷ []) l ≡ label_row ls l
    by (inl h) = get_or_append_left ls (unbound r ∷ []) (unbound false) l h
    by (inr h) = by_order (cases_lt (length ls) l)
      where
        by_order : (length ls < l) ⊎ (l ≤ length ls) → label_row (ls ++ unbound r ∷ []) l ≡ label_row ls l
        by_order (inl k) = get_or_past (ls ++ unbound r ∷ []) l (unbound false) (rw length_push (omega arith)) ∙ sym (get_or_past ls l (unbound false) h)
        by_order (inr k) = absurd (n (omega arith))

pub pushed_unplaced : (ls : List Label) (r : Bool) (l : ℕ) → l ≢ length ls → Unplaced (label_row (ls ++ unbound r ∷ []) l) → Unplaced (label_row ls l)
pushed_unplaced ls r l n u = subst Unplaced (pushed_other ls r l n) u

pub user_unplaced : (ls : List Label) (l : ℕ) → Unplaced (label_row (ls ++ unbound false ∷ []) l) → Unplaced (label_row ls l)
user_unplaced ls l u = by (cases_eq l (length ls))
  where
    by : (l ≡ length ls) ⊎ (l ≡ length ls → ⊥) → Unplaced (label_row ls l)
    by (inl e) = absurd (unreserved _ (ap (λ (x : Label). x.reserved) (get_or_push ls (unbound false) (unbound false) l (sym e))) u)
    by (inr n) = pushed_unplaced ls false l n u

-- one label bound
bound_unplaced : (ls : List Label) (l at k : ℕ) → Unplaced (label_row (bound_at ls l at) k) → (k ≢ l) × Unplaced (label_row ls k)
bound_unplaced ls l at k u = by (cases_eq k l)
  where
    here : l < length ls → (label_row (bound_at ls l at) l).place ≡ At at
    here h = ap (λ (x : Label). x.place) (get_or-set_same ls l _ (unbound false) h)

    by : (k ≡ l) ⊎ (k ≡ l → ⊥) → (k ≢ l) × Unplaced (label_row ls k)
    by (inl e) =
        let v : Unplaced (label_row (bound_at ls l at) l) = subst (λ (j : ℕ). Unplaced (label_row (bound_at ls l at) j)) e u in
        let h : l < length ls = rw length-set at (unplaced_exists (bound_at ls l at) l v) in
        absurd (none-some at (ap offset_in (sym v.nowhere ∙ here h)))
    by (inr n) = (n, subst Unplaced (bound_row ls l at k n) u)

pub bound_if_unplaced : (ls : List Label) (o : Option ℕ) (at k : ℕ) → Unplaced (label_row (bound_if ls o at) k) → (o ≢ Some k) × Unplaced (label_row ls k)
bound_if_unplaced ls None at k u = (none-some k, u)
bound_if_unplaced ls (Some l) at k u = let b = bound_unplaced ls l at k u in (λ e. b.0 (sym (same_Some l k e)), b.1)

pub free_unplaced : (ls : List Label) (l at k : ℕ) → (label_row ls l).reserved ≡ false → Unplaced (label_row (bound_at ls l at) k) → Unplaced (label_row ls k)
free_unplaced ls l at k free u = by (cases_eq k l)
  where
    by : (k ≡ l) ⊎ (k ≡ l → ⊥) → Unplaced (label_row ls k)
    by (inl e) = absurd (unreserved _ (set_field (λ (x : Label). x.reserved) ls l k _ refl ∙ ap (λ (j : ℕ). (label_row ls j).reserved) e ∙ free) u)
    by (inr n) = subst Unplaced (bound_row ls l at k n) u

-- labels moved, or made aliases
pub moved_unplaced : (from to : ℕ) (ls : List Label) (l : ℕ) → Unplaced (label_row (map (moved from to) ls) l) → Unplaced (label_row ls l)
moved_unplaced from to ls l u = by (subst Unplaced (moved_row from to ls l) u) (cases_at from (label_row ls l).place)
  where
    by : Unplaced (moved from to (label_row ls l)) → ((label_row ls l).place ≡ At from) ⊎ ((label_row ls l).place ≢ At from) → Unplaced (label_row ls l)
    by v (inl e) = let there : (moved from to (label_row ls l)).place ≡ At to = rw (eq-is_at from (label_row ls l).place e) in absurd (none-some to (ap offset_in (sym v.nowhere ∙ there)))
    by v (inr n) = subst Unplaced (moved_other from to (label_row ls l) n) v

pub aliased_unplaced : (from target : ℕ) (ls : List Label) (l : ℕ) → Unplaced (label_row (map (aliased from target) ls) l) → Unplaced (label_row ls l)
aliased_unplaced from target ls l u = by (subst Unplaced (aliased_row from target ls l) u) (cases_at from (label_row ls l).place)
  where
    by : Unplaced (aliased from target (label_row ls l)) → ((label_row ls l).place ≡ At from) ⊎ ((label_row ls l).place ≢ At from) → Unplaced (label_row ls l)
    by v (inl e) = let there : (aliased from target (label_row ls l)).place ≡ AliasOf target = rw (eq-is_at from (label_row ls l).place e) in absurd (none-some target (ap alias_in (sym v.nowhere ∙ there)))
    by v (inr n) = subst Unplaced (aliased_other from target (label_row ls l) n) v
