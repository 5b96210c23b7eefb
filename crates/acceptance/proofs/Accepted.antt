-- All that is promised, proved.
use Rattle.acceptance.specs.Demands.{Accepted}
use Rattle.acceptance.proofs.Demand1.{demand1}
use Rattle.acceptance.proofs.Demand2.{demand2}
use Rattle.acceptance.proofs.Demand3.{demand3, histories}

pub accepted : Accepted
accepted = record { demand1 = demand1; demand2 = demand2; demand3 = demand3; histories = histories }
