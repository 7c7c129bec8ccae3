-- The first island: traps and constants are written, labels keep their aliases, and what waits is for the same labels.
use Rattle.std.proofs.Common.{◌≡◌, ℕ, zero, suc, ◌+◌, Bool, true, ltb, List, [], ◌∷◌, map, length, drop, Some, None, Option, unwrap_or, option_map, sym, refl, ap, ◌∙◌, length-set, Ok, Err, Result}
use Rattle.std.specs.List.{AllByRecursion}
use Rattle.std.proofs.ByRecursion.{All-drop, All-push}
use Rattle.isa.specs.Isa.{Isa}
use Rattle.model.specs.declared.rows.Label.{Label}
use Rattle.model.specs.declared.rows.Fixup.{Fixup}
use Rattle.model.specs.declared.rows.DeferredTrap.{DeferredTrap}
use Rattle.model.specs.declared.rows.Fate.{Fate}
use Rattle.model.specs.declared.refusals.Refusal.{Refusal}
use Rattle.model.specs.declared.rows.Fate.TheVariants.{ToLabel, ToVeneer}
use Rattle.model.specs.Capacities.{max_code}
use Rattle.model.specs.State.{State, cur_offset, with_branches}
use Rattle.model.specs.Code.{aligned}
use Rattle.model.specs.Labels.{alias_in, label_row, bound_at, bound_if, root_within, root}
use Rattle.model.specs.Fixups.{comes_before, insert_held}
use Rattle.model.specs.Constants.{constant_row}
use Rattle.model.specs.Fates.{fate, own_fixup}
use Rattle.model.specs.Islands.{threshold, handled, is_ripe, less_fresh, less_held, fresh_step, fresh_pass, held_pass, reset_deadline, trap_step, traps_pass, constant_step, constants_pass, island}
use Rattle.model.proofs.Cases.{either}
use Rattle.finish_laws.proofs.Brings.{Brings, then_brings}
use Rattle.finish_laws.proofs.Fates.{Supported, fate_supported}
use Rattle.label_laws.specs.Sound.{Waits, Awaited, label_of, Tables, Sound}
use Rattle.label_laws.proofs.Distinct.{all_out}
use Rattle.label_laws.proofs.Edits.{set_field}
use Rattle.label_laws.proofs.Tables.{trap_written, constant_placed}

-- the same labels, of which some may now stand somewhere
pub record Alike (ls us : List Label) : Type 0 where
  pub long : length us ≡ length ls
  pub aliases : (l : ℕ) → alias_in (label_row us l).place ≡ alias_in (label_row ls l).place
  pub reserved : (l : ℕ) → (label_row us l).reserved ≡ (label_row ls l).reserved

bound_alike : (ls us : List Label) (l at : ℕ) → Waits us l → Alike ls us → Alike ls (bound_at us l at)
bound_alike ls us l at w a = record {
  long = rw length-set a.long;
  aliases = λ k. set_field (λ (x : Label). alias_in x.place) us l k _ (sym (ap (λ (x : Label). alias_in x.place) w.row)) ∙ a.aliases k;
  reserved = λ k. set_field (λ (x : Label). x.reserved) us l k _ refl ∙ a.reserved k;
}

bound_if_alike : (ls us : List Label) (o : Option ℕ) (at : ℕ) → Awaited us o → Alike ls us → Alike ls (bound_if us o at)
bound_if_alike ls us None at w a = absurd w
bound_if_alike ls us (Some l) at w a = bound_alike ls us l at w a

-- they lead alike
same-root_within : (ls us : List Label) → Alike ls us → (n l : ℕ) → root_within n us l ≡ root_within n ls l
same-root_within ls us a zero l = refl
same-root_within ls us a (suc n) l = rw (a.aliases l)
    (elim (alias_in (label_row ls l).place) as (λ (o : Option ℕ). unwrap_or (option_map (λ x. root_within n us x) o) l ≡ unwrap_or (option_map (λ x. root_within n ls x) o) l)
    [ None ↦ refl | Some x ↦ same-root_within ls us a n x ])

pub same-root : (ls us : List Label) → Alike ls us → (l : ℕ) → root us l ≡ root ls l
same-root ls us a l = rw a.long (same-root_within ls us a (length ls) l)

-- Something holds of every use that waits, and outlasts a veneer.
module _ (i : Isa) (Q : Fixup → Type 0) (owns : (f : Fixup) (at : ℕ) → i.supports f.kind ≡ true → Q f → Q (own_fixup i f at)) (ls : List Label) where
  record Midst (s : State) : Type 0 where
    fresh : AllByRecursion Q s.fresh
    held : AllByRecursion Q s.held
    labels : Alike ls s.labels
    tables : Tables s.labels [] [] [] s.deferred s.constants s.requested

  -- and these are the deferred traps
  record Writing (ds : List DeferredTrap) (s : State) : Type 0 where
    midst : Midst s
    left : s.deferred ≡ ds

  -- or none is left, and these are the requested constants
  record Placing (ns : List ℕ) (s : State) : Type 0 where
    midst : Midst s
    no_traps : s.deferred ≡ []
    left : s.requested ≡ ns

  handled_midst : (x : Result Fate Refusal) (s r : State) (f : Fixup) → Supported i f x → Q f → Midst r → Brings Midst (handled i x s r f)
  handled_midst (Ok (ToLabel place)) s r f e q m = record { fresh = m.fresh; held = m.held; labels = m.labels; tables = m.tables }
  handled_midst (Ok (ToVeneer at)) s r f e q m = record { fresh = All-push Q r.fresh (own_fixup i f at) m.fresh (owns f at e q); held = m.held; labels = m.labels; tables = m.tables }
  handled_midst (Err x) s r f e q m = tt

  all_insert : (f : Fixup) (gs : List Fixup) → Q f → AllByRecursion Q gs → AllByRecursion Q (insert_held f gs)
  all_insert f [] q a = (q, tt)
  all_insert f (g ∷ gs) q a = either (AllByRecursion Q) (comes_before f g) _ _ (q, a) (a.0, all_insert f gs q a.1)

  module _ (force : Bool) (t : ℕ) where
    fresh_step_midst : (s : State) (f : Fixup) → Q f → Midst s → Brings Midst (fresh_step i force t s f)
    fresh_step_midst s f q m =
        let less : AllByRecursion Q (drop 1 s.fresh) = All-drop Q 1 s.fresh m.fresh in
        either (Brings Midst) (is_ripe i t s f) _ _
        (handled_midst (fate i force s f) s (less_fresh s) f (fate_supported i force s f) q (record { fresh = less; held = m.held; labels = m.labels; tables = m.tables }))
        (record { fresh = less; held = all_insert f s.held q m.held; labels = m.labels; tables = m.tables })

    fresh_pass_midst : (fs : List Fixup) (s : State) → AllByRecursion Q fs → Midst s → Brings Midst (fresh_pass i force t fs s)
    fresh_pass_midst [] s a m = m
    fresh_pass_midst (f ∷ fs) s a m = then_brings Midst Midst (fresh_step i force t s f) (λ r. fresh_pass i force t fs r) (fresh_step_midst s f a.0 m) (λ r h. fresh_pass_midst fs r a.1 h)

    held_pass_midst : (fs : List Fixup) (s : State) → AllByRecursion Q fs → Midst s → Brings Midst (held_pass i force t fs s)
    held_pass_midst [] s a m = m
    held_pass_midst (f ∷ fs) s a m =
        either (Brings Midst) (is_ripe i t s f) _ _
        (then_brings Midst Midst (handled i (fate i force s f) s (less_held s) f) (λ r. held_pass i force t fs r)
        (handled_midst (fate i force s f) s (less_held s) f (fate_supported i force s f) a.0 (record { fresh = m.fresh; held = All-drop Q 1 s.held m.held; labels = m.labels; tables = m.tables })) (λ r h. held_pass_midst fs r a.1 h))
        m

  trap_step_midst : (d : DeferredTrap) (ds : List DeferredTrap) (s : State) → Writing (d ∷ ds) s → Brings (Writing ds) (trap_step i s d)
  trap_step_midst d ds s w =
      let at = aligned i.align (cur_offset s) in
      let m = w.midst in
      let t : Tables s.labels [] [] [] (d ∷ ds) s.constants s.requested = rw w.left at m.tables in
      either (Brings (Writing ds)) (ltb max_code (at + length i.trap)) _ _ tt
      (record { midst = record { fresh = m.fresh; held = m.held; labels = bound_alike ls s.labels d.label at t.waits.0 m.labels; tables = rw w.left (trap_written s.labels [] [] [] ds s.constants s.requested d at t) }; left = ap (drop 1) w.left })

  traps_pass_midst : (ds : List DeferredTrap) (s : State) → Writing ds s → Brings (Writing []) (traps_pass i ds s)
  traps_pass_midst [] s w = w
  traps_pass_midst (d ∷ ds) s w = then_brings (Writing ds) (Writing []) (trap_step i s d) (λ r. traps_pass i ds r) (trap_step_midst d ds s w) (λ r h. traps_pass_midst ds r h)

  constant_step_midst : (n : ℕ) (ns : List ℕ) (s : State) → Placing (n ∷ ns) s → Brings (Placing ns) (constant_step s n)
  constant_step_midst n ns s w =
      let at = aligned (constant_row s n).align (cur_offset s) in
      let m = w.midst in
      let t : Tables s.labels [] [] [] s.deferred s.constants (n ∷ ns) = rw w.left at m.tables in
      let a = all_out (Awaited s.labels) (label_of s.constants n) (map (λ (d : DeferredTrap). Some d.label) s.deferred) (map (label_of s.constants) ns) t.waits in
      either (Brings (Placing ns)) (ltb max_code (at + (constant_row s n).size)) _ _ tt
      (record { midst = record { fresh = m.fresh; held = m.held; labels = bound_if_alike ls s.labels (constant_row s n).label at a.0 m.labels; tables = rw w.left (constant_placed s.labels [] [] [] s.deferred s.constants ns n at _ t) }; no_traps = w.no_traps; left = ap (drop 1) w.left })

  constants_pass_midst : (ns : List ℕ) (s : State) → Placing ns s → Brings (Placing []) (constants_pass ns s)
  constants_pass_midst [] s w = w
  constants_pass_midst (n ∷ ns) s w = then_brings (Placing ns) (Placing []) (constant_step s n) (λ r. constants_pass ns r) (constant_step_midst n ns s w) (λ r h. constants_pass_midst ns r h)

-- after a complete island nothing is pending
pub record Written (Q : Fixup → Type 0) (ls : List Label) (s : State) : Type 0 where
  pub fresh : AllByRecursion Q s.fresh
  pub held : AllByRecursion Q s.held
  pub labels : Alike ls s.labels
  pub no_traps : s.deferred ≡ []
  pub no_constants : s.requested ≡ []

pub island_writes : (i : Isa) (Q : Fixup → Type 0) → ((f : Fixup) (at : ℕ) → i.supports f.kind ≡ true → Q f → Q (own_fixup i f at)) → (force : Bool) (s : State) → AllByRecursion Q s.fresh → AllByRecursion Q s.held → Sound s → Brings (Written Q s.labels) (island i force 0 s)
island_writes i Q owns force s fresh held k =
    let t = threshold i s 0 in
    let ls = s.labels in
    let M : State → Type 0 = Midst i Q owns ls in
    let W : State → Type 0 = Writing i Q owns ls [] in
    let C : State → Type 0 = Placing i Q owns ls [] in
    let E : State → Type 0 = Written Q ls in
    then_brings M E _ _ (fresh_pass_midst i Q owns ls force t s.fresh (with_branches s []) fresh (record { fresh = fresh; held = held; labels = record { long = refl; aliases = λ _. refl; reserved = λ _. refl }; tables = record { labels = k.labels; branches = tt; fresh = tt; held = tt; waits = k.waits; apart = k.apart } })) (λ a m.
    then_brings M E _ _ (held_pass_midst i Q owns ls force t a.held (reset_deadline i a) m.held (record { fresh = m.fresh; held = m.held; labels = m.labels; tables = m.tables })) (λ b n.
    then_brings W E _ _ (traps_pass_midst i Q owns ls b.deferred b (record { midst = n; left = refl })) (λ c w.
    then_brings C E _ _ (constants_pass_midst i Q owns ls c.requested c (record { midst = w.midst; no_traps = w.left; left = refl })) (λ d p.
    record { fresh = p.midst.fresh; held = p.midst.held; labels = p.midst.labels; no_traps = p.no_traps; no_constants = p.left }))))
