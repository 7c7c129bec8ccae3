-- Labels: where they stand, and where they lead along their aliases.
use Rattle.std.specs.Prelude.{ℕ, zero, suc, Bool, true, false, cond, not, ◌&&◌, List, length, is_some, is_none, Some, None, count_by, Option, unwrap_or, option_map, ◌==◌, slice_index_or, slice_set}
use Rattle.model.specs.declared.rows.Label.{Label}
use Rattle.model.specs.declared.rows.Place.{Place}
use Rattle.model.specs.declared.rows.Place.TheVariants.{Nowhere, At, AliasOf}
use Rattle.model.specs.State.{unknown}

-- a new label
abbrev pub unbound : Bool → Label
unbound reserved = record { place = Nowhere; reserved = reserved }

-- the row of a label
abbrev pub label_row : List Label → ℕ → Label
label_row ls l = slice_index_or ls l (unbound false)

-- the offset of a place
abbrev pub offset_in : Place → Option ℕ
offset_in Nowhere = None
offset_in (At n) = Some n
offset_in (AliasOf l) = None

-- the label that a place is an alias of
abbrev pub alias_in : Place → Option ℕ
alias_in Nowhere = None
alias_in (At n) = None
alias_in (AliasOf l) = Some l

-- a place is this offset
abbrev pub is_at : ℕ → Place → Bool
is_at at Nowhere = false
is_at at (At n) = n == at
is_at at (AliasOf l) = false

-- a place is that of an unbound label
abbrev pub is_nowhere : Place → Bool
is_nowhere Nowhere = true
is_nowhere (At n) = false
is_nowhere (AliasOf l) = false

-- the label at the end of at most so many aliases
abbrev pub root_within : ℕ → List Label → ℕ → ℕ
root_within zero ls l = l
root_within (suc n) ls l = unwrap_or (option_map (λ a. root_within n ls a) (alias_in (label_row ls l).place)) l

-- the label that a label stands for: no chain of aliases is longer than there are labels
abbrev pub root : List Label → ℕ → ℕ
root ls l = root_within (length ls) ls l

-- the offset that a label resolves to, if it resolves to one that stands somewhere
abbrev pub place_of : List Label → ℕ → Option ℕ
place_of ls l = offset_in (label_row ls (root ls l)).place

-- the same as a number, `unknown` where there is none
abbrev pub offset_of : List Label → ℕ → ℕ
offset_of ls l = unwrap_or (place_of ls l) unknown

-- a label resolves to one that is unbound and not reserved, so that no island will bind it
abbrev pub is_lost : List Label → ℕ → Bool
is_lost ls l = let r = label_row ls (root ls l) in is_none (offset_in r.place) && not r.reserved

-- how many labels stand at an offset
abbrev pub standing : ℕ → List Label → ℕ
standing at ls = count_by (λ (x : Label). is_at at x.place) ls

-- how many labels stand anywhere
abbrev pub bound_count : List Label → ℕ
bound_count ls = count_by (λ (x : Label). is_some (offset_in x.place)) ls

-- the labels with one bound
abbrev pub bound_at : List Label → ℕ → ℕ → List Label
bound_at ls l at = slice_set ls l (record { place = At at; reserved = (label_row ls l).reserved })

-- the labels with one bound, if there is one
abbrev pub bound_if : List Label → Option ℕ → ℕ → List Label
bound_if ls None at = ls
bound_if ls (Some l) at = bound_at ls l at

-- a label that stands at one offset moves to another
abbrev pub moved : ℕ → ℕ → Label → Label
moved from to x = record { place = cond (is_at from x.place) (At to) x.place; reserved = x.reserved }

-- a label that stands at an offset becomes an alias of another label, and stands there no longer
abbrev pub aliased : ℕ → ℕ → Label → Label
aliased from target x = record { place = cond (is_at from x.place) (AliasOf target) x.place; reserved = x.reserved }
