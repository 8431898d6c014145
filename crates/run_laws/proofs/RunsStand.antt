-- The report of a run over legal streams under piles stands, where it ends without fault.
use Rattle.run_laws.specs.Runs.{Report, run}
use Rattle.run_laws.specs.Laws.{Made, piled, RunsStand}
use Rattle.run_laws.proofs.RunsAccounted.{runs_accounted}
use Rattle.run_laws.proofs.RunsExact.{runs_exact, runs_counted}
use Rattle.run_laws.proofs.RunsMade.{runs_made}

pub runs_stand : RunsStand
runs_stand s p fs srcs wide lawful ends =
    let a : Report = run s p (piled fs srcs) in
    let m : Made s (piled fs srcs) a = runs_made s p (piled fs srcs) wide in
    record {
      made = m;
      exact = runs_exact s fs srcs a wide lawful m ends;
      counted = runs_counted s fs srcs a wide lawful m ends;
      accounted = runs_accounted s (piled fs srcs) a m ends;
    }
