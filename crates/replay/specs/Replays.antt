-- What a replay gives: what the definitions give, call by call.
use Rattle.std.specs.Prelude.{◌≡◌, ℕ, List, map, reverse, take, vec_items}
use Rattle.isa.specs.Isa.{Isa}
use Rattle.buffer.specs.View.{view}
use Rattle.model.specs.Laws.{Accounted}
use Rattle.model.specs.Runs.{run}
use Rattle.model.specs.Steps as model
use Rattle.model.specs.Tallies.{Tally}
use Rattle.replay.specs.Calls.{answer_of}
use Rattle.replay.specs.declared.replay.Counts.{Counts}
use Rattle.replay.specs.declared.replay.Replay.{Replay}

abbrev pub counts_of : Counts → Tally
counts_of c = record { accepted = c.accepted; made = c.made; patched = c.patched; removed = c.removed }

-- A list of calls on a new buffer of the meaning i came to this.
pub record Replayed {S : Type 0} (i : Isa) (calls : List model.Call) (p : Replay S) : Type 0 where
  -- the tables, the answers and the counts are those of the definitions in turn
  pub tables : view p.session.buffer ≡ (run i calls).state
  pub answers : map answer_of (vec_items p.answers) ≡ reverse (run i calls).answers
  pub counts : counts_of p.counts ≡ (run i calls).counts
  -- at the start and after each call, every use that was accepted or made is patched, removed or waits
  pub balanced : (n : ℕ) → Accounted (run i (take n calls))
