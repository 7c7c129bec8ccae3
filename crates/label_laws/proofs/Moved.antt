-- Labels move from one offset to a lower one.
use Rattle.std.proofs.Common.{◌≡◌, ℕ, ◌≤◌, ◌≢◌, ◌⊎◌, cond, eqb, List, map, length, None, sym, refl, ap, ◌∙◌, subst, inl, inr, arith}
use lib.ListN.{length-map}
use Rattle.std.proofs.lemmas.Option.{none-some}
use Rattle.std.proofs.ByRecursion.{All-map, All-weaker}
use Rattle.model.specs.declared.rows.Label.{Label}
use Rattle.model.specs.declared.rows.Place.{Place}
use Rattle.model.specs.declared.rows.Place.TheVariants.{Nowhere, At, AliasOf}
use Rattle.model.specs.Labels.{alias_in, is_at, label_row, moved}
use Rattle.model.proofs.Labels.{eq-is_at, ne_is_at, cases_at}
use Rattle.model.proofs.Cases.{either}
use Rattle.label_laws.specs.Moves.{Moves}
use Rattle.label_laws.specs.Sound.{Row, Orderly}
use Rattle.label_laws.proofs.Orderly.{same_moves, same_aliases}
use Rattle.label_laws.proofs.Edits.{Keeps, mapped_row}

pub moved_other : (from to : ℕ) (x : Label) → x.place ≢ At from → moved from to x ≡ x
moved_other from to x h = rw (ne_is_at from x.place h)

moved_there : (from to : ℕ) (x : Label) → x.place ≡ At from → (moved from to x).place ≡ At to
moved_there from to x h = rw (eq-is_at from x.place h)

moved_alias : (from to : ℕ) (p : Place) → alias_in (cond (is_at from p) (At to) p) ≡ alias_in p
moved_alias from to Nowhere = refl
moved_alias from to (At n) = either (λ (q : Place). alias_in q ≡ None) (eqb n from) _ _ refl refl
moved_alias from to (AliasOf l) = refl

pub moved_row : (from to : ℕ) (ls : List Label) (l : ℕ) → label_row (map (moved from to) ls) l ≡ moved from to (label_row ls l)
moved_row from to ls l = mapped_row (moved from to) refl ls l

pub moved_keeps : (ls : List Label) (from to : ℕ) → to ≤ from → Orderly ls → Keeps ls (map (moved from to) ls)
moved_keeps ls from to less o = record {
  orderly = record {
    few = rw length-map o.few;
    rows = rw length-map (All-map (Row (length ls)) (moved from to) ls (All-weaker (Row (length ls)) (λ x. Row (length ls) (moved from to x)) row ls o.rows));
    ends = λ l. ((o.ends l).0, same_aliases ls (map (moved from to) ls) (λ k. ap (λ (x : Label). alias_in x.place) (moved_row from to ls k) ∙ moved_alias from to (label_row ls k).place) (o.ends l).1);
  };
  later = record {
    more = rw length-map (omega arith);
    moves = λ l h. subst (λ (x : Label). Moves (label_row ls l) x) (sym (moved_row from to ls l)) (moves (label_row ls l));
  };
}
  where
    row : (x : Label) → Row (length ls) x → Row (length ls) (moved from to x)
    row x (inl e) = inl (moved_alias from to x.place ∙ e)
    row x (inr r) = inr (record { to = r.to; alias = rw r.alias refl; among = r.among })

    moves : (x : Label) → Moves x (moved from to x)
    moves x = by (cases_at from x.place)
      where
        by : (x.place ≡ At from) ⊎ (x.place ≢ At from) → Moves x (moved from to x)
        by (inl e) =
            record {
              stays = λ a h. absurd (none-some a (ap alias_in (sym e ∙ h)));
              falls = λ at h. inr (record { from = from; to = to; stood = e; stands = moved_there from to x e; no_later = less });
              reserved = refl;
            }
        by (inr n) = same_moves x (moved from to x) (moved_other from to x n)
