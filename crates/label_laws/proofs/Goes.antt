-- From a buffer to a later one.
use Rattle.std.proofs.Common.{◌≡◌}
use Rattle.model.specs.State.{State}
use Rattle.label_laws.specs.Sound.{Sound, Goes}
use Rattle.label_laws.proofs.Orderly.{later_same, later_on}

pub goes_same : (s : State) → Sound s → Goes s s
goes_same s k = record { sound = k; later = later_same s.labels }

pub goes_on : (s r q : State) → Goes s r → Goes r q → Goes s q
goes_on s r q f g = record { sound = g.sound; later = later_on s.labels r.labels q.labels f.later g.later }

-- the labels are the same
pub goes_beside : (s r : State) → Sound s → Sound r → r.labels ≡ s.labels → Goes s r
goes_beside s r k g e = record { sound = g; later = rw e (later_same s.labels) }
