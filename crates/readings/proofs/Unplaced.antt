-- A label whose aliases end at one that was never placed leads nowhere in the draft.
use Rattle.std.proofs.Common.{◌≡◌, ℕ, ◌≤◌, Bool, true, false, cond, List, length, refl, ap, ◌∙◌, subst}
use Rattle.readings.specs.Walk.{Step, stop, RunsOff}
use Rattle.readings.specs.Draft.{Truth, Draft, item, is_kept, label, Position, at, to, Destination, the_kept, placing, enter, draft_step}
use Rattle.readings.specs.Layout.{Cell, Entry, free, Labels}
use Rattle.readings.specs.Growth.{Grows}
use Rattle.readings.proofs.Apart.{apart}
use Rattle.readings.proofs.Ways.{no_step, runs_off}
use Rattle.readings.proofs.Follows.{Tells}
use Rattle.readings.proofs.Placing.{placing_none}
use Rattle.readings.proofs.Aliases.{Dangles, open_end, dangling}
use Rattle.readings.proofs.Grown.{grown_open, grown_follows}
use Rattle.readings.proofs.Stands.{within}

module _ (D : Draft) (L : List Cell) (T : Labels) (t f : ℕ) (grows : Grows D L T t f) (all : length D.items ≤ t) (complete : (l : ℕ) → is_kept D l ≡ true → T l ≡ free → ⊥) (τ : Truth) where
  never_placed : (l : ℕ) → T l ≡ free → (i : ℕ) → item D i ≡ label l → ⊥
  never_placed l f i h = grown_open grows l i f (within D i t all (λ z. apart (cc))) h

  free_nowhere : (l : ℕ) → T l ≡ free → RunsOff (draft_step D τ) (to l)
  free_nowhere l f = go (is_kept D l) refl
    where
      go : (b : Bool) → is_kept D l ≡ b → RunsOff (draft_step D τ) (to l)
      go true h = absurd (complete l h f)
      go false h =
          let K : Bool → Step Position Destination = λ b. cond b (stop (the_kept l)) (enter (placing D.items l)) in
          no_step (draft_step D τ) (ap K h ∙ ap enter (placing_none D.items l (never_placed l f)))

  pub dangles_nowhere : {l : ℕ} → Dangles T l → RunsOff (draft_step D τ) (to l)
  dangles_nowhere {l} (open_end h) = free_nowhere l h
  dangles_nowhere {l} (dangling {m = m} h d) =
      let w = subst (λ (x : Entry). Tells D τ L (at t) l x) h ((grown_follows τ grows).labels l) in
      runs_off (draft_step D τ) w (dangles_nowhere d)
