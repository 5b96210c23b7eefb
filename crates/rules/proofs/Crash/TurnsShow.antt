-- "Turns is how far the working sector moved round the ring", of every call that landed on an image at rest.
use mathlib.Core.Path.{◌≡◌, ap, ◌∙◌}
use mathlib.Core.Bool.{true}
use mathlib.Core.Option.{some}
use Prim.Native.Nat.{ℕ}
use lib.ListN.{length}
use Rattle.rules.specs.Ground.{legal_sizes}
use Rattle.rules.specs.Meaning.{at_rest, Is}
use Rattle.rules.specs.Demands.{budget, views, TurnsShow}
use Rattle.rules.proofs.Ring.States.{is_state}
use Rattle.rules.proofs.Crash.Landed.{call-legal, call-landed}

pub turns-show : TurnsShow
unfolding TurnsShow Is
turns-show size count image call w typed ok rests lands =
    let legal : legal_sizes size count (length image) ≡ true = call-legal size count image (budget call) call lands in
    let left = call-landed size count image typed legal w rests call (budget call) ok lands in
    is_state (views size count _) (at_rest left.settles.settled.working) left.settles.settled.rests.is
    ∙ ap (λ (s : ℕ). some (at_rest s)) left.settles.here
