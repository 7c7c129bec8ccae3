-- Fixups: the uses of labels that wait to be patched.
use Rattle.std.specs.Prelude.{ℕ, ◌+◌, ◌-◌, min, Bool, cond, ◌&&◌, ◌||◌, List, [], ◌∷◌, ◌++◌, length, ◌==◌, nat_lt}
use Rattle.isa.specs.Isa.{Isa}
use Rattle.model.specs.declared.rows.Fixup.{Fixup}
use Rattle.model.specs.State.{State, unknown, with_fresh, with_deadline}

-- how many wait
abbrev pub waiting : State → ℕ
waiting s = length s.fresh + length s.held

-- a use of kind k at an offset, whose deadline is the furthest offset that it reaches
abbrev pub fixup_at : Isa → ℕ → ℕ → ℕ → Fixup
fixup_at i l at k = record { label = l; offset = at; kind = k; deadline = at + i.max_pos k }

-- what the fresh deadline counts: an island may first need padding
abbrev pub fresh_deadline_of : Isa → Fixup → ℕ
fresh_deadline_of i f = f.deadline - i.align

-- one fresh fixup more
abbrev pub add_fixup : Isa → State → Fixup → State
add_fixup i s f = with_deadline (with_fresh s (s.fresh ++ f ∷ [])) (min s.deadline (fresh_deadline_of i f))

-- the fresh deadline of some fixups
abbrev pub least_fresh_deadline : Isa → List Fixup → ℕ
least_fresh_deadline i [] = unknown
least_fresh_deadline i (f ∷ fs) = min (fresh_deadline_of i f) (least_fresh_deadline i fs)

-- the least deadline of some fixups
abbrev pub least_deadline : List Fixup → ℕ
least_deadline [] = unknown
least_deadline (f ∷ fs) = min f.deadline (least_deadline fs)

-- held fixups stand by deadline, ties by the lower offset
abbrev pub comes_before : Fixup → Fixup → Bool
comes_before f g = nat_lt f.deadline g.deadline || (f.deadline == g.deadline && nat_lt f.offset g.offset)

-- the held fixups with one more
abbrev pub insert_held : Fixup → List Fixup → List Fixup
insert_held f [] = f ∷ []
insert_held f (g ∷ gs) = cond (comes_before f g) (f ∷ g ∷ gs) (g ∷ insert_held f gs)
