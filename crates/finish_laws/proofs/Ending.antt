-- Finishing ends: the first island places every label that is waited for, and then chains fall.
use Rattle.std.proofs.Common.{◌≡◌, ℕ, suc, ◌+◌, ◌<◌, Bool, true, false, not, ◌≢◌, ◌⊎◌, List, [], length, is_some, None, is_none, sym, refl, ap, ◌∙◌, subst, inl, inr, arith}
use Rattle.std.specs.List.{AllByRecursion}
use Rattle.std.proofs.ByRecursion.{All-weaker}
use Rattle.std.proofs.lemmas.Option.{none-some}
use Rattle.std.proofs.lemmas.Bool.{and_cases, cond_both, not-false}
use Rattle.isa.specs.Isa.{Isa}
use Rattle.isa.specs.Laws.{Lawful}
use Rattle.model.specs.declared.rows.Label.{Label}
use Rattle.model.specs.declared.rows.Fixup.{Fixup}
use Rattle.model.specs.declared.rows.Constant.{Constant}
use Rattle.model.specs.State.{State}
use Rattle.model.specs.Labels.{offset_in, alias_in, label_row, root, place_of, is_lost}
use Rattle.model.specs.Fates.{own_fixup}
use Rattle.model.specs.Islands.{island}
use Rattle.model.specs.Finish.{is_busy, islands_within, longest_chain, all_islands, unfit}
use Rattle.model.specs.Uses.{InPlace}
use Rattle.model.proofs.Labels.{some-known, known-is_some, standing_at, neither}
use Rattle.model.proofs.Orderly.{Orderly}
use Rattle.model.proofs.Uses.{all_both}
use Rattle.label_laws.specs.Leads.{Ends}
use Rattle.label_laws.specs.Moves.{NeverForward, Later}
use Rattle.label_laws.specs.Sound.{Orderly as OrderlyLabels, Sound, Goes}
use Rattle.label_laws.proofs.Leads.{ends}
use Rattle.label_laws.proofs.Orderly.{orderly_within}
use Rattle.label_laws.proofs.Islands.{island_gets}
use Rattle.finish_laws.proofs.Brings.{Brings, then_brings, brings_both, brings_weaker}
use Rattle.finish_laws.proofs.Pending.{AllPending}
use Rattle.finish_laws.proofs.Awaited.{Awaited, island_awaited}
use Rattle.finish_laws.proofs.First.{Alike, same-root, Written, island_writes}
use Rattle.finish_laws.proofs.Chains.{Low, Settled, chains_end, within_longest}
use Rattle.finish_laws.proofs.Lost.{none_lost}

-- Nothing is pending any more: a label that was not lost is placed.
module _ (ls us : List Label) (cs : List Constant) (o : OrderlyLabels ls) (alike : Alike ls us) (later : Later ls us) (none : AllPending us [] cs []) (l : ℕ) (exists : l < length ls) where
  end_found : Ends ls l
  end_found = ends ls (orderly_within ls o) exists (o.ends l).1

  still_unaliased : alias_in (label_row us (root ls l)).place ≡ None
  still_unaliased = alike.aliases (root ls l) ∙ end_found.unaliased

  still_placed : NeverForward (label_row ls (root ls l)) (label_row us (root ls l)) → offset_in (label_row us (root ls l)).place ≢ None
  still_placed (inl a) = absurd (none-some a.to (sym still_unaliased ∙ ap alias_in a.aliased))
  still_placed (inr p) = some-known p.to _ (ap offset_in p.stands)

  now_placed : (label_row ls (root ls l)).reserved ≡ true → offset_in (label_row us (root ls l)).place ≢ None
  now_placed e z = none (root ls l) tt (record { reserved = alike.reserved (root ls l) ∙ e; nowhere = neither _ z still_unaliased })

  placed : (is_none (offset_in (label_row ls (root ls l)).place) ≡ false) ⊎ (not (label_row ls (root ls l)).reserved ≡ false) → offset_in (label_row us (root ls l)).place ≢ None
  placed (inl e) = let at = standing_at _ e in still_placed ((later.moves (root ls l) end_found.exists).falls at.0 at.1)
  placed (inr e) = now_placed (not-false _ e)

  resolved : is_lost ls l ≡ false → is_some (place_of us l) ≡ true
  resolved e = subst (λ (m : ℕ). is_some (offset_in (label_row us m).place) ≡ true) (sym (same-root ls us alike l)) (known-is_some _ (placed (and_cases (is_none (offset_in (label_row ls (root ls l)).place)) _ e)))

-- a use of a kind of the set, for a label of the table that is not lost
record Ready (i : Isa) (ls : List Label) (f : Fixup) : Type 0 where
  kind : f.kind < i.kinds
  exists : f.label < length ls
  not_lost : is_lost ls f.label ≡ false

own_ready : (i : Isa) → Lawful i → (ls : List Label) (f : Fixup) (at : ℕ) → i.supports f.kind ≡ true → Ready i ls f → Ready i ls (own_fixup i f at)
own_ready i lawful ls f at e r = record { kind = (lawful.veneer_bounds f.kind r.kind e).own_kind; exists = r.exists; not_lost = r.not_lost }

all_ready : (i : Isa) (ls : List Label) (code : List ℕ) (fs : List Fixup) → AllByRecursion (InPlace i code) fs → AllByRecursion (λ (f : Fixup). f.label < length ls) fs → AllByRecursion (λ (f : Fixup). is_lost ls f.label ≡ false) fs → AllByRecursion (Ready i ls) fs
all_ready i ls code fs a b c = all_both (InPlace i code) (λ (f : Fixup). (f.label < length ls) × (is_lost ls f.label ≡ false)) (Ready i ls) (λ f p q. record { kind = p.kind; exists = q.0; not_lost = q.1 }) fs a (all_both _ _ _ (λ f x y. (x, y)) fs b c)

-- what holds of the tables that finishing is called on
pub record Fit (i : Isa) (s : State) : Type 0 where
  pub orderly : Orderly i s
  pub sound : Sound s
  pub awaited : Awaited s
  pub pool : List ℕ
  pub accepted : unfit s pool ≡ None

module _ (i : Isa) (lawful : Lawful i) (force : Bool) (s : State) (fit : Fit i s) where
  abbrev Left : State → Type 0
  Left r = Written (Ready i s.labels) s.labels r × (Goes s r × Awaited r)

  settled : (r : State) → Left r → Settled i r.labels (suc (longest_chain i)) r
  settled r (w, (g, k)) =
      let low : (f : Fixup) → Ready i s.labels f → Low i r.labels (suc (longest_chain i)) f =
      λ f y. record {
        kind = y.kind;
        short = omega (arith, within_longest i i.kinds f.kind y.kind);
        placed = resolved s.labels r.labels r.constants fit.sound.labels w.labels g.later (rw (w.no_traps, w.no_constants) at k) f.label y.exists y.not_lost;
      } in
      record {
        labels = refl;
        fresh = All-weaker (Ready i s.labels) (Low i r.labels (suc (longest_chain i))) low r.fresh w.fresh;
        held = All-weaker (Ready i s.labels) (Low i r.labels (suc (longest_chain i))) low r.held w.held;
        no_traps = w.no_traps;
        no_constants = w.no_constants;
      }

  first_settles : Brings (λ r. Settled i r.labels (suc (longest_chain i)) r) (island i force 0 s)
  first_settles =
      let lost = none_lost s fit.pool fit.accepted in
      let p = island i force 0 s in
      let w : Brings (Written (Ready i s.labels) s.labels) p =
      island_writes i (Ready i s.labels) (own_ready i lawful s.labels) force s
      (all_ready i s.labels s.code s.fresh fit.orderly.uses.fresh_in_place fit.sound.fresh lost.0)
      (all_ready i s.labels s.code s.held fit.orderly.uses.held_in_place fit.sound.held lost.1) fit.sound in
      let g : Goes s p.state = (island_gets i force 0 s fit.sound).holds in
      brings_weaker Left (λ r. Settled i r.labels (suc (longest_chain i)) r) settled p (brings_both (Written (Ready i s.labels) s.labels) (λ r. Goes s r × Awaited r) p w (g, island_awaited i force 0 s fit.awaited))

  -- as many islands as the longest chain and two more leave nothing waiting and nothing pending
  ends_within : Brings (λ r. is_busy r ≡ false) (islands_within i force (suc (suc (longest_chain i))) s)
  ends_within =
      cond_both (is_busy s) _ _ (Brings (λ r. is_busy r ≡ false))
      (λ _. then_brings (λ r. Settled i r.labels (suc (longest_chain i)) r) (λ r. is_busy r ≡ false) (island i force 0 s) (λ r. islands_within i force (suc (longest_chain i)) r) first_settles (λ r h. chains_end i lawful force r.labels (suc (longest_chain i)) r h))
      (λ e. e)

  pub islands_end : Brings (λ r. is_busy r ≡ false) (all_islands i force s)
  islands_end =
      let e : suc (suc (longest_chain i)) ≡ 2 + longest_chain i = omega arith in
      subst (λ (n : ℕ). Brings (λ r. is_busy r ≡ false) (islands_within i force n s)) e ends_within
