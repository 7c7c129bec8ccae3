use Rattle.model.specs.Runs.{run}
use Rattle.model.proofs.Steady.{run_steady}
use Rattle.model.proofs.Settled.{next_bound_same, next_optimized_same}
use Rattle.model.proofs.laws.code_before_branches_kept.Goals as goal

pub returns : goal.returns
returns c = λ i lawful calls l skip.
    let k = run_steady i lawful calls in
    (next_bound_same i (run i calls) l skip k, next_optimized_same i (run i calls) skip k)
