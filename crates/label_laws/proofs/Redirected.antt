-- Labels at an offset become aliases of a label that does not resolve to it.
use Rattle.std.proofs.Common.{◌≡◌, ℕ, ◌<◌, ◌≢◌, ◌⊎◌, List, map, length, Some, sym, refl, ap, ◌∙◌, subst, inl, inr, arith}
use lib.ListN.{length-map}
use Rattle.std.proofs.lemmas.Option.{none-some}
use Rattle.std.proofs.ByRecursion.{All-map, All-weaker}
use Rattle.model.specs.declared.rows.Label.{Label}
use Rattle.model.specs.declared.rows.Place.TheVariants.{At, AliasOf}
use Rattle.model.specs.Labels.{alias_in, label_row, aliased, root}
use Rattle.model.proofs.Labels.{eq-is_at, ne_is_at, cases_at}
use Rattle.label_laws.specs.Leads.{Leads, here, on}
use Rattle.label_laws.specs.Moves.{Moves}
use Rattle.label_laws.specs.Sound.{Row, Orderly}
use Rattle.label_laws.proofs.Leads.{root_is}
use Rattle.label_laws.proofs.Orderly.{orderly_within, same_moves}
use Rattle.label_laws.proofs.Edits.{Keeps, mapped_row}

pub aliased_other : (from target : ℕ) (x : Label) → x.place ≢ At from → aliased from target x ≡ x
aliased_other from target x h = rw (ne_is_at from x.place h)

aliased_there : (from target : ℕ) (x : Label) → x.place ≡ At from → aliased from target x ≡ record { place = AliasOf target; reserved = x.reserved }
aliased_there from target x h = rw (eq-is_at from x.place h)

pub aliased_row : (from target : ℕ) (ls : List Label) (l : ℕ) → label_row (map (aliased from target) ls) l ≡ aliased from target (label_row ls l)
aliased_row from target ls l = mapped_row (aliased from target) refl ls l

module _ (ls : List Label) (from target : ℕ) (exists : target < length ls) (o : Orderly ls) where
  abbrev redirected : List Label
  redirected = map (aliased from target) ls

  same_row : (l : ℕ) → (label_row ls l).place ≢ At from → label_row redirected l ≡ label_row ls l
  same_row l h = aliased_row from target ls l ∙ aliased_other from target (label_row ls l) h

  new_alias : (l : ℕ) → (label_row ls l).place ≡ At from → alias_in (label_row redirected l).place ≡ Some target
  new_alias l h = ap (λ (x : Label). alias_in x.place) (aliased_row from target ls l ∙ aliased_there from target (label_row ls l) h)

  -- a label that is an alias does not stand there
  alias_elsewhere : (l a : ℕ) → alias_in (label_row ls l).place ≡ Some a → (label_row ls l).place ≢ At from
  alias_elsewhere l a h e = none-some a (ap alias_in (sym e) ∙ h)

  -- a way on which only the end may change
  on_same : (l a m : ℕ) → alias_in (label_row ls l).place ≡ Some a → Leads redirected a m → Leads redirected l m
  on_same l a m h p = on a (ap (λ (x : Label). alias_in x.place) (same_row l (alias_elsewhere l a h)) ∙ h) p

  kept : {l m : ℕ} → (label_row ls m).place ≢ At from → Leads ls l m → Leads redirected l m
  kept {l} n (here h) = here (ap (λ (x : Label). alias_in x.place) (same_row l n) ∙ h)
  kept {l} {m} n (on a h p) = on_same l a m h (kept n p)

  led_on : {l m n : ℕ} → (label_row ls m).place ≡ At from → Leads redirected target n → Leads ls l m → Leads redirected l n
  led_on {l} e t (here h) = on target (new_alias l e) t
  led_on {l} {n = n} e t (on a h p) = on_same l a n h (led_on e t p)

  module _ (elsewhere : (label_row ls (root ls target)).place ≢ At from) where
    target_led : (m : ℕ) × Leads redirected target m
    target_led =
        let p = o.ends target in
        let e = root_is ls (orderly_within ls o) exists p.1 in
        (p.0, kept (λ z. elsewhere (ap (λ (x : ℕ). (label_row ls x).place) e ∙ z)) p.1)

    all_led : (l : ℕ) → (m : ℕ) × Leads redirected l m
    all_led l = by (cases_at from (label_row ls (o.ends l).0).place)
      where
        by : ((label_row ls (o.ends l).0).place ≡ At from) ⊎ ((label_row ls (o.ends l).0).place ≢ At from) → (m : ℕ) × Leads redirected l m
        by (inl e) = (target_led.0, led_on e target_led.1 (o.ends l).1)
        by (inr n) = ((o.ends l).0, kept n (o.ends l).1)

    row_redirected : (x : Label) → Row (length ls) x → Row (length ls) (aliased from target x)
    row_redirected x r = by (cases_at from x.place)
      where
        by : (x.place ≡ At from) ⊎ (x.place ≢ At from) → Row (length ls) (aliased from target x)
        by (inl e) = subst (Row (length ls)) (sym (aliased_there from target x e)) (inr (record { to = target; alias = refl; among = exists }))
        by (inr n) = subst (Row (length ls)) (sym (aliased_other from target x n)) r

    moves_redirected : (x : Label) → Moves x (aliased from target x)
    moves_redirected x = by (cases_at from x.place)
      where
        by : (x.place ≡ At from) ⊎ (x.place ≢ At from) → Moves x (aliased from target x)
        by (inl e) =
            rw (aliased_there from target x e) (record { stays = λ a h. absurd (none-some a (ap alias_in (sym e ∙ h))); falls = λ at h. inl (record { to = target; aliased = refl }); reserved = refl })
        by (inr n) = same_moves x (aliased from target x) (aliased_other from target x n)

    pub aliased_keeps : Keeps ls redirected
    aliased_keeps = record {
      orderly = record {
        few = rw length-map o.few;
        rows = rw length-map (All-map (Row (length ls)) (aliased from target) ls (All-weaker (Row (length ls)) (λ x. Row (length ls) (aliased from target x)) row_redirected ls o.rows));
        ends = all_led;
      };
      later = record {
        more = rw length-map (omega arith);
        moves = λ l h. subst (λ (x : Label). Moves (label_row ls l) x) (sym (aliased_row from target ls l)) (moves_redirected (label_row ls l));
      };
    }
