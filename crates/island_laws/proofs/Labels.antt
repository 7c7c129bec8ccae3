-- Islands bind only labels that are unbound.
use Rattle.std.proofs.Common.{◌≡◌, ℕ, Bool, ◌≢◌, List, [], ◌∷◌, map, Some, None, Option, sym, refl, ap, ◌∙◌}
use Rattle.isa.specs.Isa.{Isa}
use Rattle.model.specs.declared.rows.Label.{Label}
use Rattle.model.specs.declared.rows.Place.TheVariants.{Nowhere}
use Rattle.model.specs.declared.rows.DeferredTrap.{DeferredTrap}
use Rattle.model.specs.State.{State}
use Rattle.model.specs.Labels.{label_row, bound_at, bound_if}
use Rattle.model.specs.Islands.{island}
use Rattle.model.specs.Steps.{Call}
use Rattle.model.specs.Runs.{run}
use Rattle.model.proofs.Passes.{KeptByIslands, any_uses, island_keeps}
use Rattle.label_laws.specs.Sound.{label_of, Waits, Awaited, Tables}
use Rattle.label_laws.proofs.Distinct.{all_out}
use Rattle.label_laws.proofs.Edits.{bound_row}
use Rattle.label_laws.proofs.Tables.{trap_written, constant_placed}
use Rattle.label_laws.proofs.Runs.{run_sound}

-- it stands at an offset, or is an alias
abbrev Placed : Label → Type 0
Placed x = x.place ≢ Nowhere

-- The tables of labels, and of traps and constants that are to be written under them; and the rows that are as in a table of
-- before.
record RowsKept (ls : List Label) (s : State) : Type 0 where
  tables : Tables s.labels [] [] [] s.deferred s.constants s.requested
  rows : (l : ℕ) → Placed (label_row ls l) → label_row s.labels l ≡ label_row ls l

-- a label that waits for an island is bound
bound_kept : (ls us : List Label) (w at : ℕ) → Waits us w → ((l : ℕ) → Placed (label_row ls l) → label_row us l ≡ label_row ls l) → (l : ℕ) → Placed (label_row ls l) → label_row (bound_at us w at) l ≡ label_row ls l
bound_kept ls us w at x same l h =
    let other : l ≢ w = λ e. h (ap (λ (y : Label). y.place) (sym (same l h) ∙ ap (label_row us) e ∙ x.row)) in
    bound_row us w at l other ∙ same l h

bound_if_kept : (ls us : List Label) (o : Option ℕ) (at : ℕ) → Awaited us o → ((l : ℕ) → Placed (label_row ls l) → label_row us l ≡ label_row ls l) → (l : ℕ) → Placed (label_row ls l) → label_row (bound_if us o at) l ≡ label_row ls l
bound_if_kept ls us None at a same l h = absurd a
bound_if_kept ls us (Some w) at a same l h = bound_kept ls us w at a same l h

rows_kept : (i : Isa) (ls : List Label) → KeptByIslands i (λ _. Unit {0}) (RowsKept ls) (RowsKept ls)
rows_kept i ls = record {
  forgot = λ s k. record { tables = k.tables; rows = k.rows };
  patched_fresh = λ s f fs place k e h o n. record { tables = k.tables; rows = k.rows };
  veneered_fresh = λ s f fs at k e h o v. record { tables = k.tables; rows = k.rows };
  put_aside = λ s f fs k e h o. record { tables = k.tables; rows = k.rows };
  patched_held = λ s f fs place k e h n. record { tables = k.tables; rows = k.rows };
  veneered_held = λ s f fs at k e h v. record { tables = k.tables; rows = k.rows };
  deadline_reset = λ s k. record { tables = k.tables; rows = k.rows };
  all_patched = λ s k. k;
  trap_written = λ s d ds k e h room.
      let t : Tables s.labels [] [] [] (d ∷ ds) s.constants s.requested = rw h at k.tables in
      record { tables = trap_written s.labels [] [] [] ds s.constants s.requested d _ t; rows = bound_kept ls s.labels d.label _ t.waits.0 k.rows };
  constant_placed = λ s n ns k e h room.
      let t : Tables s.labels [] [] [] s.deferred s.constants (n ∷ ns) = rw h at k.tables in
      let w = all_out (Awaited s.labels) (label_of s.constants n) (map (λ (d : DeferredTrap). Some d.label) s.deferred) (map (label_of s.constants) ns) t.waits in
      record { tables = constant_placed s.labels [] [] [] s.deferred s.constants ns n _ _ t; rows = bound_if_kept ls s.labels (label_of s.constants n) _ w.0 k.rows };
}

pub islands_move_no_label : (i : Isa) (calls : List Call) (force : Bool) (distance l : ℕ) → let s = (run i calls).state in
    (label_row s.labels l).place ≢ Nowhere → label_row (island i force distance s).state.labels l ≡ label_row s.labels l
islands_move_no_label i calls force distance l =
    let s = (run i calls).state in
    let k = run_sound i calls in
    (island_keeps (rows_kept i s.labels) force distance s (any_uses s.fresh)
    (record { tables = record { labels = k.labels; branches = tt; fresh = tt; held = tt; waits = k.waits; apart = k.apart }; rows = λ _ _. refl })).rows l
