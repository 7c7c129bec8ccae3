-- From the tables before an island to those within it, step by step.
use Rattle.std.proofs.Common.{◌≡◌, ℕ, ◌+◌, ◌<◌, ◌≤◌, ◌⊎◌, List, length, get_or, take, drop, Some, sym, ap, ◌∙◌, inl, inr, arith}
use lib.IntN.{sub_ℕ}
use Rattle.std.proofs.lemmas.List.{get_or-take, get_or-drop}
use Rattle.isa.specs.Isa.{Isa}
use Rattle.model.specs.declared.rows.Fixup.{Fixup}
use Rattle.model.specs.State.{State, cur_offset}
use Rattle.model.specs.Labels.{place_of}
use Rattle.model.specs.Fates.{own_fixup}
use Rattle.model.specs.Uses.{Apart}
use Rattle.island_laws.specs.Waiting.{Waits, use_bytes, InNoUse, StillWaits, Patched, VeneerAt, AtVeneer, Outcome, OfVeneer}

-- the uses that wait at the start have bytes, within the code
pub record Start (i : Isa) (s : State) : Type 0 where
  pub within : (f : Fixup) → Waits s f → f.offset + i.size f.kind ≤ cur_offset s
  pub some : (f : Fixup) → Waits s f → 1 ≤ i.size f.kind

-- what has changed since
pub record Since (i : Isa) (s r : State) : Type 0 where
  pub longer : cur_offset s ≤ cur_offset r
  pub bytes : (n : ℕ) → n < cur_offset s → InNoUse i s n → get_or r.code n 0 ≡ get_or s.code n 0
  pub each : (f : Fixup) → Waits s f → Outcome i s r f
  pub waiting : (g : Fixup) → Waits r g → Waits s g ⊎ OfVeneer i s r g

-- a use is written in one step
pub record Written (i : Isa) (s r : State) (f : Fixup) (to : ℕ) : Type 0 where
  pub reads : i.reads f.kind (use_bytes i r f) ≡ sub_ℕ to f.offset
  pub outside : i.outside f.kind (use_bytes i r f) ≡ i.outside f.kind (use_bytes i s f)

-- to its label
pub record ByLabel (i : Isa) (start s r : State) (f : Fixup) : Type 0 where
  pub place : ℕ
  pub stood : place_of start.labels f.label ≡ Some place
  pub written : Written i s r f place

-- to a veneer that is made in the same step
pub record ByVeneer (i : Isa) (start s r : State) (f : Fixup) (at : ℕ) : Type 0 where
  pub written : Written i s r f at
  pub veneer : VeneerAt i start r f at

pub record NewOwn (i : Isa) (start s r : State) (T : Fixup → Type 0) (g : Fixup) : Type 0 where
  pub patched_use : Fixup
  pub at : ℕ
  pub touched : T patched_use
  pub is : g ≡ own_fixup i patched_use at
  pub made : ByVeneer i start s r patched_use at

-- One step: uses of which T holds are written, which waited at the start and wait no longer; other bytes stay.
pub record Step (i : Isa) (start s r : State) (T : Fixup → Type 0) : Type 0 where
  pub longer : cur_offset s ≤ cur_offset r
  pub same : (from n : ℕ) → from + n ≤ cur_offset s → ((f : Fixup) → T f → (from + n ≤ f.offset) ⊎ (f.offset + i.size f.kind ≤ from)) → take n (drop from r.code) ≡ take n (drop from s.code)
  pub old : (f : Fixup) → T f → Waits start f
  pub waited : (f : Fixup) → T f → Waits s f
  pub left : (g : Fixup) → Waits s g → T g ⊎ Waits r g
  pub came : (g : Fixup) → Waits r g → (Waits s g × ((f : Fixup) → T f → Apart i f g)) ⊎ NewOwn i start s r T g
  pub done : (f : Fixup) → T f → ByLabel i start s r f ⊎ ((at : ℕ) × ByVeneer i start s r f at)

read_one : (xs : List ℕ) (n : ℕ) → get_or (take 1 (drop n xs)) 0 0 ≡ get_or xs n 0
read_one xs n = let e : n + 0 ≡ n = omega arith in get_or-take 1 (drop n xs) 0 0 (omega arith) ∙ get_or-drop n xs 0 0 ∙ ap (λ (m : ℕ). get_or xs m 0) e

one_byte : (xs ys : List ℕ) (n : ℕ) → take 1 (drop n xs) ≡ take 1 (drop n ys) → get_or xs n 0 ≡ get_or ys n 0
one_byte xs ys n e = sym (read_one xs n) ∙ ap (λ (b : List ℕ). get_or b 0 0) e ∙ read_one ys n

apart_swap : (i : Isa) (f g : Fixup) → Apart i f g → Apart i g f
apart_swap i f g (inl h) = inr h
apart_swap i f g (inr h) = inl h

-- a use of the start does not lie beside itself
pub not_itself : {i : Isa} {s : State} → Start i s → (f : Fixup) → Waits s f → Apart i f f → ⊥
not_itself z f w (inl h) = let m = z.some f w in let l : ⊥ = omega arith in l
not_itself z f w (inr h) = let m = z.some f w in let l : ⊥ = omega arith in l

module _ {i : Isa} {start s r : State} {T : Fixup → Type 0} (z : Start i start) (k : Since i start s) (x : Step i start s r T) where
  -- what lies behind the code of the start
  own_behind : (f g : Fixup) (at : ℕ) → cur_offset start ≤ at → g ≡ own_fixup i f at → cur_offset start ≤ g.offset
  own_behind f g at h e = let o : g.offset ≡ at + (i.veneer f.kind).place = ap (λ (u : Fixup). u.offset) e in omega arith

  behind_apart : (f g : Fixup) → Waits start f → cur_offset start ≤ g.offset → Apart i f g
  behind_apart f g w h = let l = z.within f w in inl (omega arith)

  new_apart : (f g : Fixup) → Waits start f → NewOwn i start s r T g → Apart i f g
  new_apart f g w o = behind_apart f g w (own_behind o.patched_use g o.at o.made.veneer.behind o.is)

  unchanged : (g : Fixup) → Waits start g → ((f : Fixup) → T f → Apart i g f) → use_bytes i r g ≡ use_bytes i s g
  unchanged g w apart = let l = z.within g w in let m = k.longer in x.same g.offset (i.size g.kind) (omega arith) apart

  -- what was patched before
  patched_kept : (f : Fixup) (to : ℕ) → Waits start f → Patched i start s f to → Patched i start r f to
  patched_kept f to w p =
      let e = unchanged f w (λ g t. p.alone g (x.waited g t)) in
      record { reads = ap (i.reads f.kind) e ∙ p.reads; outside = ap (i.outside f.kind) e ∙ p.outside; alone = λ g v. by g (x.came g v) }
    where
      by : (g : Fixup) → (Waits s g × ((h : Fixup) → T h → Apart i h g)) ⊎ NewOwn i start s r T g → Apart i f g
      by g (inl c) = p.alone g c.0
      by g (inr o) = new_apart f g w o

  veneer_kept : (f : Fixup) (at : ℕ) → VeneerAt i start s f at → VeneerAt i start r f at
  veneer_kept f at v = record {
    supported = v.supported;
    behind = v.behind;
    aligned = v.aligned;
    within = omega (arith, v.within, x.longer);
    whole = x.same at (length (i.veneer f.kind).code) v.within (λ g t. let l = z.within g (x.old g t) in let b = v.behind in inr (omega arith)) ∙ v.whole;
    own_waits = by (x.left (own_fixup i f at) v.own_waits);
  }
    where
      by : T (own_fixup i f at) ⊎ Waits r (own_fixup i f at) → Waits r (own_fixup i f at)
      by (inl t) =
          let w = x.old (own_fixup i f at) t in
          let l = z.within (own_fixup i f at) w in
          let m = z.some (own_fixup i f at) w in
          let b = v.behind in
          absurd (omega arith)
      by (inr w) = w

  at_veneer_kept : (f : Fixup) (at : ℕ) → Waits start f → AtVeneer i start s f at → AtVeneer i start r f at
  at_veneer_kept f at w a = record { patched = patched_kept f at w a.patched; veneer = veneer_kept f at a.veneer }

  -- what is patched now
  bytes_before : (f : Fixup) → T f → use_bytes i s f ≡ use_bytes i start f
  bytes_before f t = by (k.each f (x.old f t))
    where
      by : Outcome i start s f → use_bytes i s f ≡ use_bytes i start f
      by (inl a) = a.same
      by (inr (inl a)) = absurd (not_itself z f (x.old f t) (a.patched.alone f (x.waited f t)))
      by (inr (inr a)) = absurd (not_itself z f (x.old f t) (a.1.patched.alone f (x.waited f t)))

  written_patched : (f : Fixup) (to : ℕ) → T f → Written i s r f to → Patched i start r f to
  written_patched f to t w = record { reads = w.reads; outside = w.outside ∙ ap (i.outside f.kind) (bytes_before f t); alone = λ g v. by g (x.came g v) }
    where
      by : (g : Fixup) → (Waits s g × ((h : Fixup) → T h → Apart i h g)) ⊎ NewOwn i start s r T g → Apart i f g
      by g (inl c) = c.1 f t
      by g (inr o) = new_apart f g (x.old f t) o

  by_veneer : (f : Fixup) (at : ℕ) → T f → ByVeneer i start s r f at → AtVeneer i start r f at
  by_veneer f at t b = record { patched = written_patched f at t b.written; veneer = b.veneer }

  pub since_step : Since i start r
  since_step = record {
    longer = omega (arith, k.longer, x.longer);
    bytes = λ n h none. let l = k.longer in one_byte r.code s.code n (x.same n 1 (omega arith) (λ f t. beside n f (none f (x.old f t)))) ∙ k.bytes n h none;
    each = λ f w. outcome f w (k.each f w);
    waiting = λ g w. origin g (x.came g w);
  }
    where
      beside : (n : ℕ) (f : Fixup) → (n < f.offset) ⊎ (f.offset + i.size f.kind ≤ n) → (n + 1 ≤ f.offset) ⊎ (f.offset + i.size f.kind ≤ n)
      beside n f (inl h) = inl (omega arith)
      beside n f (inr h) = inr h

      outcome_now : (f : Fixup) → T f → ByLabel i start s r f ⊎ ((at : ℕ) × ByVeneer i start s r f at) → Outcome i start r f
      outcome_now f t (inl b) = inr (inl (record { place = b.place; stood = b.stood; patched = written_patched f _ t b.written }))
      outcome_now f t (inr b) = inr (inr (b.0, by_veneer f b.0 t b.1))

      still : (f : Fixup) → Waits start f → StillWaits i start s f → Waits r f → (Waits s f × ((h : Fixup) → T h → Apart i h f)) ⊎ NewOwn i start s r T f → Outcome i start r f
      still f w a v (inl c) = inl (record { waits = v; same = unchanged f w (λ h t. apart_swap i h f (c.1 h t)) ∙ a.same })
      still f w a v (inr o) = absurd (not_itself z f w (new_apart f f w o))

      waits_on : (f : Fixup) → Waits start f → StillWaits i start s f → T f ⊎ Waits r f → Outcome i start r f
      waits_on f w a (inl t) = outcome_now f t (x.done f t)
      waits_on f w a (inr v) = still f w a v (x.came f v)

      outcome : (f : Fixup) → Waits start f → Outcome i start s f → Outcome i start r f
      outcome f w (inl a) = waits_on f w a (x.left f a.waits)
      outcome f w (inr (inl a)) = inr (inl (record { place = a.place; stood = a.stood; patched = patched_kept f _ w a.patched }))
      outcome f w (inr (inr a)) = inr (inr (a.0, at_veneer_kept f a.0 w a.1))

      of_veneer : (g : Fixup) → OfVeneer i start s g → OfVeneer i start r g
      of_veneer g o = record { patched_use = o.patched_use; at = o.at; waited = o.waited; is = o.is; made = at_veneer_kept o.patched_use o.at o.waited o.made }

      old_origin : (g : Fixup) → Waits start g ⊎ OfVeneer i start s g → Waits start g ⊎ OfVeneer i start r g
      old_origin g (inl w) = inl w
      old_origin g (inr o) = inr (of_veneer g o)

      origin : (g : Fixup) → (Waits s g × ((h : Fixup) → T h → Apart i h g)) ⊎ NewOwn i start s r T g → Waits start g ⊎ OfVeneer i start r g
      origin g (inl c) = old_origin g (k.waiting g c.0)
      origin g (inr o) = inr (record { patched_use = o.patched_use; at = o.at; waited = x.old _ o.touched; is = o.is; made = by_veneer o.patched_use o.at o.touched o.made })
