-- The laws that every instruction set proves of its meaning.
use Rattle.std.specs.Prelude.{◌≡◌, ℕ, ◌+◌, ◌%◌, ◌^◌, ◌<◌, ◌≤◌, Bool, true, false, not, ◌⊎◌, List, ◌++◌, length, ℤ, pos, ◌+ℤ◌, Some, None, Option, is_some}
use Rattle.bits.specs.Words.{Octets}
use Rattle.isa.specs.declared.jumps.Condition.{Condition}
use Rattle.isa.specs.declared.jumps.Role.{Role}
use Rattle.isa.specs.declared.jumps.Role.TheVariants.{Unconditional, Conditional}
use Rattle.isa.specs.declared.jumps.Jump.{Jump}
use Rattle.isa.specs.declared.jumps.Jump.TheVariants.{Branch, Veneer}
use Rattle.isa.specs.Isa.{Isa, Veneer as VeneerCode, Patchable, bytes_at, patched_at}

-- bytes of kind k: as many as it patches
pub record OfKind (i : Isa) (k : ℕ) (b : List ℕ) : Type 0 where
  pub kind : k < i.kinds
  pub long : length b ≡ i.size k

-- the numbers of a kind
pub record KindBounds (i : Isa) (k : ℕ) : Type 0 where
  pub max_pos_low : i.align ≤ i.max_pos k
  pub max_neg_low : i.align ≤ i.max_neg k
  pub size_low : 1 ≤ i.size k
  pub size_high : i.size k ≤ 8
  pub size_aligned : i.size k % i.align ≡ 0

-- A veneer fills 1 to 64 bytes, at most the worst. Its own use lies within it at an aligned place, has no
-- displacement yet, and is of a kind with a shorter chain.
pub record VeneerBounds (i : Isa) (k : ℕ) (v : VeneerCode) : Type 0 where
  pub some : 1 ≤ length v.code
  pub at_most_worst : length v.code ≤ i.worst
  pub aligned : length v.code % i.align ≡ 0
  pub octets : Octets v.code
  pub own_kind : v.own < i.kinds
  pub own_aligned : v.place % i.align ≡ 0
  pub own_within : v.place + i.size v.own ≤ length v.code
  pub own_reads_0 : i.reads v.own (bytes_at i v.own v.code v.place) ≡ pos 0
  pub chain_falls : i.chain k ≡ 1 + i.chain v.own

-- what is found leads to one place, whatever holds: a veneer, or an unconditional branch
abbrev pub Leads : Option Jump → ℤ → Type 0
Leads None e = ⊥
Leads (Some (Branch r n d)) e = (r ≡ Unconditional) × (d ≡ e)
Leads (Some (Veneer d)) e = d ≡ e

pub record Lawful (i : Isa) : Type 0 where
  -- the alignment is 1, 2, 4 or 8
  pub align_power : (e : ℕ) × (e ≤ 3) × (i.align ≡ 2 ^ e)
  -- both ranges are at least the alignment, and the size is 1 to 8 and a multiple of it
  pub kind_bounds : (k : ℕ) → k < i.kinds → KindBounds i k
  -- a patch keeps the length, and gives bytes
  pub patched_long : (k : ℕ) (b : List ℕ) (d : ℤ) → Patchable i k b d → length (i.patched k b d) ≡ i.size k
  pub patched_octets : (k : ℕ) (b : List ℕ) (d : ℤ) → Patchable i k b d → Octets (i.patched k b d)
  -- the reading after a patch is the displacement
  pub reads_patched : (k : ℕ) (b : List ℕ) (d : ℤ) → Patchable i k b d → i.reads k (i.patched k b d) ≡ d
  -- bits outside the field keep their value
  pub outside_patched : (k : ℕ) (b : List ℕ) (d : ℤ) → Patchable i k b d → i.outside k (i.patched k b d) ≡ i.outside k b
  -- the reading and what is outside the field are all that there is
  pub field_only : (k : ℕ) (b c : List ℕ) → OfKind i k b → OfKind i k c → Octets b → Octets c → i.outside k b ≡ i.outside k c → i.reads k b ≡ i.reads k c → b ≡ c
  -- the role ignores the field
  pub role_outside : (k : ℕ) (b c : List ℕ) → OfKind i k b → OfKind i k c → i.outside k b ≡ i.outside k c → i.role k b ≡ i.role k c
  -- at most one kind gives bytes a role
  pub role_once : (k j : ℕ) (b : List ℕ) → OfKind i k b → OfKind i j b → is_some (i.role k b) ≡ true → is_some (i.role j b) ≡ true → k ≡ j
  -- an adding kind gives none
  pub adds_no_branch : (k : ℕ) (b : List ℕ) → OfKind i k b → i.adds k ≡ true → i.role k b ≡ None
  -- inverted bytes have the same condition, the other sense, the same displacement and the same rest
  pub inverted_long : (k : ℕ) (b : List ℕ) → OfKind i k b → length (i.inverted k b) ≡ i.size k
  pub inverted_octets : (k : ℕ) (b : List ℕ) → OfKind i k b → Octets (i.inverted k b)
  pub inverted_role : (k : ℕ) (b : List ℕ) (c : Condition) (s : Bool) → OfKind i k b → i.role k b ≡ Some (Conditional c s) → i.role k (i.inverted k b) ≡ Some (Conditional c (not s))
  pub inverted_reads : (k : ℕ) (b : List ℕ) (c : Condition) (s : Bool) → OfKind i k b → i.role k b ≡ Some (Conditional c s) → i.reads k (i.inverted k b) ≡ i.reads k b
  pub inverted_rest : (k : ℕ) (b : List ℕ) (c : Condition) (s : Bool) → OfKind i k b → i.role k b ≡ Some (Conditional c s) → i.rest k (i.inverted k b) ≡ i.rest k b
  -- the rest leaves out the sense alone
  pub rest_outside : (k : ℕ) (b c : List ℕ) (x : Condition) (s : Bool) → OfKind i k b → OfKind i k c → i.role k b ≡ Some (Conditional x s) → i.role k c ≡ Some (Conditional x s) → i.rest k b ≡ i.rest k c → i.outside k b ≡ i.outside k c
  -- veneers; a kind without one has no chain, and each veneer has one less than its use's, so chains are finite
  pub veneer_bounds : (k : ℕ) → k < i.kinds → i.supports k ≡ true → VeneerBounds i k (i.veneer k)
  pub no_chain : (k : ℕ) → i.supports k ≡ false → i.chain k ≡ 0
  -- the worst is the longest: a veneer of that length exists, or none at all
  pub worst_high : i.worst ≤ 64
  pub worst_met : ((k : ℕ) → k < i.kinds → i.supports k ≡ false) ⊎ ((k : ℕ) × (k < i.kinds) × (i.supports k ≡ true) × (length (i.veneer k).code ≡ i.worst))
  -- the trap word is 1 to 8 bytes, a multiple of the alignment
  pub trap_low : 1 ≤ length i.trap
  pub trap_high : length i.trap ≤ 8
  pub trap_aligned : length i.trap % i.align ≡ 0
  pub trap_octets : Octets i.trap
  -- in any code, each patched branch is found where it begins: its role, its size and its displacement
  pub finds_branch : (k : ℕ) (b : List ℕ) (d : ℤ) (before after : List ℕ) (r : Role) → Patchable i k b d → i.role k b ≡ Some r
      → i.find (before ++ (i.patched k b d ++ after)) (length before) ≡ Some (Branch r (i.size k) d)
  -- and so is each veneer: entering it leads to the target of its own use
  pub finds_veneer : (k : ℕ) (d : ℤ) (before after : List ℕ) → k < i.kinds → i.supports k ≡ true
      → Patchable i (i.veneer k).own (bytes_at i (i.veneer k).own (i.veneer k).code (i.veneer k).place) d
      → Leads (i.find (before ++ (patched_at i (i.veneer k).own (i.veneer k).code (i.veneer k).place d ++ after)) (length before)) (pos (i.veneer k).place +ℤ d)
