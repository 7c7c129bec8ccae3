-- Where every label that is waited for is placed, each island shortens all chains of veneers, until nothing waits.
use Rattle.std.proofs.Common.{◌≡◌, ℕ, zero, suc, ◌<◌, ◌≤◌, max, Bool, true, false, ◌⊎◌, List, [], ◌∷◌, ◌++◌, drop, is_some, sym, refl, ap, ◌∙◌, subst, inl, inr, append_assoc, append-nil, arith, Ok, Err, Result}
use Rattle.std.specs.List.{AllByRecursion}
use Rattle.std.proofs.ByRecursion.{All-push}
use Rattle.std.proofs.lemmas.Bool.{both_ways, cases_lt, cond_both, or_left}
use Rattle.isa.specs.Isa.{Isa}
use Rattle.isa.specs.Laws.{Lawful}
use Rattle.model.specs.declared.rows.Label.{Label}
use Rattle.model.specs.declared.rows.Fixup.{Fixup}
use Rattle.model.specs.declared.rows.DeferredTrap.{DeferredTrap}
use Rattle.model.specs.declared.rows.Fate.{Fate}
use Rattle.model.specs.declared.refusals.Refusal.{Refusal}
use Rattle.model.specs.declared.rows.Fate.TheVariants.{ToLabel, ToVeneer}
use Rattle.model.specs.State.{State, with_branches}
use Rattle.model.specs.Labels.{place_of}
use Rattle.model.specs.Fates.{fate, own_fixup}
use Rattle.model.specs.Islands.{threshold, handled, is_ripe, less_fresh, less_held, fresh_step, fresh_pass, held_pass, reset_deadline, traps_pass, constants_pass, island}
use Rattle.model.specs.Finish.{is_busy, islands_within, longest_below}
use Rattle.finish_laws.proofs.Brings.{Brings, then_brings}
use Rattle.finish_laws.proofs.Fates.{Supported, fate_supported}

-- the label is placed, and the chain is shorter than n
pub record Low (i : Isa) (ls : List Label) (n : ℕ) (f : Fixup) : Type 0 where
  pub kind : f.kind < i.kinds
  pub short : i.chain f.kind < n
  pub placed : is_some (place_of ls f.label) ≡ true

-- every use that waits is so, and nothing is pending
pub record Settled (i : Isa) (ls : List Label) (n : ℕ) (s : State) : Type 0 where
  pub labels : s.labels ≡ ls
  pub fresh : AllByRecursion (Low i ls n) s.fresh
  pub held : AllByRecursion (Low i ls n) s.held
  pub no_traps : s.deferred ≡ []
  pub no_constants : s.requested ≡ []

-- among the fresh fixups: fs are still to be handled, and the veneers' own come after them
record Midway (i : Isa) (ls : List Label) (n : ℕ) (fs : List Fixup) (s : State) : Type 0 where
  labels : s.labels ≡ ls
  made : List Fixup
  split : s.fresh ≡ fs ++ made
  low : AllByRecursion (Low i ls n) made
  todo : AllByRecursion (Low i ls (suc n)) fs
  held : AllByRecursion (Low i ls (suc n)) s.held
  no_traps : s.deferred ≡ []
  no_constants : s.requested ≡ []

-- among the held fixups
record Later (i : Isa) (ls : List Label) (n : ℕ) (fs : List Fixup) (s : State) : Type 0 where
  labels : s.labels ≡ ls
  low : AllByRecursion (Low i ls n) s.fresh
  split : s.held ≡ fs
  todo : AllByRecursion (Low i ls (suc n)) fs
  no_traps : s.deferred ≡ []
  no_constants : s.requested ≡ []

-- a placed label makes a fixup ripe
ripe : (i : Isa) (ls : List Label) (n t : ℕ) (s : State) (f : Fixup) → s.labels ≡ ls → Low i ls n f → is_ripe i t s f ≡ true
ripe i ls n t s f e l = or_left (is_some (place_of s.labels f.label)) _ (rw e l.placed)

module _ (i : Isa) (lawful : Lawful i) (ls : List Label) (n : ℕ) where
  own_low : (at : ℕ) (f : Fixup) → i.supports f.kind ≡ true → Low i ls (suc n) f → Low i ls n (own_fixup i f at)
  own_low at f e l =
      let v = lawful.veneer_bounds f.kind l.kind e in
      record { kind = v.own_kind; short = omega (arith, l.short, v.chain_falls); placed = l.placed }

  handled_midway : (f : Fixup) (fs : List Fixup) (s : State) (x : Result Fate Refusal) → Supported i f x → Midway i ls n (f ∷ fs) s → Brings (Midway i ls n fs) (handled i x s (less_fresh s) f)
  handled_midway f fs s (Ok (ToLabel place)) e m = record { labels = m.labels; made = m.made; split = ap (λ (v : List Fixup). drop 1 v) m.split; low = m.low; todo = m.todo.1; held = m.held; no_traps = m.no_traps; no_constants = m.no_constants }
  handled_midway f fs s (Ok (ToVeneer at)) e m = record {
    labels = m.labels;
    made = m.made ++ own_fixup i f at ∷ [];
    split = ap (λ (v : List Fixup). drop 1 v ++ own_fixup i f at ∷ []) m.split ∙ append_assoc fs m.made (own_fixup i f at ∷ []);
    low = All-push (Low i ls n) m.made (own_fixup i f at) m.low (own_low at f e m.todo.0);
    todo = m.todo.1;
    held = m.held;
    no_traps = m.no_traps;
    no_constants = m.no_constants;
  }
  handled_midway f fs s (Err x) e m = tt

  handled_later : (f : Fixup) (fs : List Fixup) (s : State) (x : Result Fate Refusal) → Supported i f x → Later i ls n (f ∷ fs) s → Brings (Later i ls n fs) (handled i x s (less_held s) f)
  handled_later f fs s (Ok (ToLabel place)) e m = record { labels = m.labels; low = m.low; split = ap (λ (v : List Fixup). drop 1 v) m.split; todo = m.todo.1; no_traps = m.no_traps; no_constants = m.no_constants }
  handled_later f fs s (Ok (ToVeneer at)) e m = record {
    labels = m.labels;
    low = All-push (Low i ls n) s.fresh (own_fixup i f at) m.low (own_low at f e m.todo.0);
    split = ap (λ (v : List Fixup). drop 1 v) m.split;
    todo = m.todo.1;
    no_traps = m.no_traps;
    no_constants = m.no_constants;
  }
  handled_later f fs s (Err x) e m = tt

  module _ (force : Bool) (t : ℕ) where
    fresh_step_midway : (f : Fixup) (fs : List Fixup) (s : State) → Midway i ls n (f ∷ fs) s → Brings (Midway i ls n fs) (fresh_step i force t s f)
    fresh_step_midway f fs s m =
        cond_both (is_ripe i t s f) _ _ (Brings (Midway i ls n fs))
        (λ _. handled_midway f fs s (fate i force s f) (fate_supported i force s f) m)
        (λ e. absurd (both_ways _ e (ripe i ls (suc n) t s f m.labels m.todo.0)))

    fresh_falls : (fs : List Fixup) (s : State) → Midway i ls n fs s → Brings (Midway i ls n []) (fresh_pass i force t fs s)
    fresh_falls [] s m = m
    fresh_falls (f ∷ fs) s m = then_brings (Midway i ls n fs) (Midway i ls n []) (fresh_step i force t s f) (λ r. fresh_pass i force t fs r) (fresh_step_midway f fs s m) (λ r h. fresh_falls fs r h)

    held_falls : (fs : List Fixup) (s : State) → Later i ls n fs s → Brings (Later i ls n []) (held_pass i force t fs s)
    held_falls [] s m = m
    held_falls (f ∷ fs) s m =
        cond_both (is_ripe i t s f) _ _ (Brings (Later i ls n []))
        (λ _. then_brings (Later i ls n fs) (Later i ls n []) (handled i (fate i force s f) s (less_held s) f) (λ r. held_pass i force t fs r)
        (handled_later f fs s (fate i force s f) (fate_supported i force s f) m) (λ r h. held_falls fs r h))
        (λ e. absurd (both_ways _ e (ripe i ls (suc n) t s f m.labels m.todo.0)))

  -- nothing is pending
  no_traps_left : (P : State → Type 0) (ds : List DeferredTrap) (s : State) → ds ≡ [] → P s → Brings P (traps_pass i ds s)
  no_traps_left P [] s e h = h
  no_traps_left P (d ∷ ds) s e h = let z : ◌≡◌ {A = ℕ} 0 1 = cc in absurd (omega arith)

  no_constants_left : (P : State → Type 0) (ns : List ℕ) (s : State) → ns ≡ [] → P s → Brings P (constants_pass ns s)
  no_constants_left P [] s e h = h
  no_constants_left P (m ∷ ns) s e h = let z : ◌≡◌ {A = ℕ} 0 1 = cc in absurd (omega arith)

  settled : (s : State) → Later i ls n [] s → Settled i ls n s
  settled s m = record { labels = m.labels; fresh = m.low; held = subst (λ (v : List Fixup). AllByRecursion (Low i ls n) v) (sym m.split) tt; no_traps = m.no_traps; no_constants = m.no_constants }

  later : (s : State) → Midway i ls n [] s → Later i ls n s.held (reset_deadline i s)
  later s m = record { labels = m.labels; low = subst (λ (v : List Fixup). AllByRecursion (Low i ls n) v) (sym m.split) m.low; split = refl; todo = m.held; no_traps = m.no_traps; no_constants = m.no_constants }

  start : (s : State) → Settled i ls (suc n) s → Midway i ls n s.fresh (with_branches s [])
  start s m = record { labels = m.labels; made = []; split = sym (append-nil s.fresh); low = tt; todo = m.fresh; held = m.held; no_traps = m.no_traps; no_constants = m.no_constants }

  -- an island shortens every chain
  pub island_shortens : (force : Bool) (s : State) → Settled i ls (suc n) s → Brings (Settled i ls n) (island i force 0 s)
  island_shortens force s m =
      let t = threshold i s 0 in
      then_brings (Midway i ls n []) (Settled i ls n) _ _ (fresh_falls force t s.fresh (with_branches s []) (start s m)) (λ a ha.
      then_brings (Later i ls n []) (Settled i ls n) _ _ (held_falls force t a.held (reset_deadline i a) (later a ha)) (λ b hb.
      then_brings (Later i ls n []) (Settled i ls n) _ _ (no_traps_left (Later i ls n []) b.deferred b hb.no_traps hb) (λ c hc.
      then_brings (Later i ls n []) (Settled i ls n) _ _ (no_constants_left (Later i ls n []) c.requested c hc.no_constants hc) (λ d hd. settled d hd))))

none_low : (i : Isa) (ls : List Label) (fs : List Fixup) → AllByRecursion (Low i ls 0) fs → fs ≡ []
none_low i ls [] h = refl
none_low i ls (f ∷ fs) h = absurd (omega (arith, h.0.short))

idle : (i : Isa) (ls : List Label) (s : State) → Settled i ls 0 s → is_busy s ≡ false
idle i ls s m = rw (none_low i ls s.fresh m.fresh, none_low i ls s.held m.held, m.no_traps, m.no_constants)

-- as many islands as bound every chain leave nothing waiting and nothing pending
pub chains_end : (i : Isa) → Lawful i → (force : Bool) (ls : List Label) (n : ℕ) (s : State) → Settled i ls n s → Brings (λ r. is_busy r ≡ false) (islands_within i force n s)
chains_end i lawful force ls zero s m = idle i ls s m
chains_end i lawful force ls (suc n) s m =
    cond_both (is_busy s) _ _ (Brings (λ r. is_busy r ≡ false))
    (λ _. then_brings (Settled i ls n) (λ r. is_busy r ≡ false) (island i force 0 s) (λ r. islands_within i force n r) (island_shortens i lawful ls n force s m) (λ r h. chains_end i lawful force ls n r h))
    (λ e. e)

-- no chain is longer than the longest
pub within_longest : (i : Isa) (n k : ℕ) → k < n → i.chain k ≤ longest_below i n
within_longest i zero k h = absurd (omega arith)
within_longest i (suc n) k h = by (within_longest i n k) (cases_lt k n)
  where
    by : (k < n → i.chain k ≤ longest_below i n) → (k < n) ⊎ (n ≤ k) → i.chain k ≤ max (i.chain n) (longest_below i n)
    by f (inl x) = let r : i.chain k ≤ longest_below i n = f x in omega arith
    by f (inr x) = let e : k ≡ n = omega arith in rw e (omega arith)
