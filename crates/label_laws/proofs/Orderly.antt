-- Orderly tables of labels, and later ones.
use Rattle.std.proofs.Common.{◌≡◌, ℕ, ◌<◌, ◌≤◌, false, ◌⊎◌, List, length, Some, sym, refl, ap, ◌∙◌, subst, inl, inr, arith}
use Rattle.std.proofs.lemmas.Bool.{cases_lt}
use Rattle.std.proofs.lemmas.List.{get_or_past}
use Rattle.std.proofs.lemmas.Option.{none-some, same_Some}
use Rattle.std.proofs.ByRecursion.{All-get_or}
use Rattle.model.specs.declared.rows.Label.{Label}
use Rattle.model.specs.declared.rows.Place.{Place}
use Rattle.model.specs.declared.rows.Place.TheVariants.{At}
use Rattle.model.specs.Labels.{offset_in, alias_in, unbound, label_row}
use Rattle.label_laws.specs.Leads.{Leads, here, on}
use Rattle.label_laws.specs.Moves.{IsAlias, StandsNoLater, NeverForward, Moves, Later}
use Rattle.label_laws.specs.Sound.{Row, Orderly}
use Rattle.label_laws.proofs.Leads.{Within}

-- the row of any number
pub row_of : (ls : List Label) (l : ℕ) → Orderly ls → Row (length ls) (label_row ls l)
row_of ls l o = by (cases_lt l (length ls))
  where
    by : (l < length ls) ⊎ (length ls ≤ l) → Row (length ls) (label_row ls l)
    by (inl h) = All-get_or (Row (length ls)) ls l (unbound false) h o.rows
    by (inr h) = inl (ap (λ (x : Label). alias_in x.place) (get_or_past ls l (unbound false) h))

alias_below : (n : ℕ) (x : Label) (a : ℕ) → Row n x → alias_in x.place ≡ Some a → a < n
alias_below n x a (inl e) h = absurd (none-some a (sym e ∙ h))
alias_below n x a (inr r) h = let e = same_Some a r.to (sym h ∙ ap alias_in r.alias) in omega (arith, r.among)

pub orderly_within : (ls : List Label) → Orderly ls → Within ls
orderly_within ls o l a h = alias_below (length ls) (label_row ls l) a (row_of ls l o) h

-- two places that are the same offset
same_at : (p : Place) (m n : ℕ) → p ≡ At m → p ≡ At n → m ≡ n
same_at p m n e h = same_Some m n (ap offset_in (sym e ∙ h))

-- the same row
pub same_moves : (x y : Label) → y ≡ x → Moves x y
same_moves x y e =
    let m : Moves x x = record { stays = λ a h. refl; falls = λ at h. inr (record { from = at; to = at; stood = h; stands = h; no_later = omega arith }); reserved = refl } in
    subst (λ (z : Label). Moves x z) (sym e) m

moves_on : (x y z : Label) → Moves x y → Moves y z → Moves x z
moves_on x y z f g = record { stays = λ a h. g.stays a (ap (λ (w : Label). w.place) (f.stays a h) ∙ h) ∙ f.stays a h; falls = λ at h. by (f.falls at h); reserved = g.reserved ∙ f.reserved }
  where
    further : StandsNoLater x y → NeverForward y z → NeverForward x z
    further a (inl b) = inl b
    further a (inr b) = let e = same_at y.place a.to b.from a.stands b.stood in inr (record { from = a.from; to = b.to; stood = a.stood; stands = b.stands; no_later = omega (arith, a.no_later, b.no_later) })

    by : NeverForward x y → NeverForward x z
    by (inl a) = inl (subst IsAlias (sym (g.stays a.to a.aliased)) a)
    by (inr a) = further a (g.falls a.to a.stands)

-- a table is a later one of itself, and of those before
pub later_same : (ls : List Label) → Later ls ls
later_same ls = record { more = omega arith; moves = λ l h. same_moves _ _ refl }

pub later_on : (ls us vs : List Label) → Later ls us → Later us vs → Later ls vs
later_on ls us vs f g = record { more = omega (arith, f.more, g.more); moves = λ l h. moves_on _ (label_row us l) _ (f.moves l h) (g.moves l (omega (arith, f.more))) }

-- tables with the same aliases lead alike
pub same_aliases : (ls us : List Label) → ((l : ℕ) → alias_in (label_row us l).place ≡ alias_in (label_row ls l).place) → {l m : ℕ} → Leads ls l m → Leads us l m
same_aliases ls us same {l} (here h) = here (same l ∙ h)
same_aliases ls us same {l} (on a h p) = on a (same l ∙ h) (same_aliases ls us same p)
