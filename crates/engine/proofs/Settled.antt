-- The contract of `engine::run` settles what a run comes to, for any table, horizon, arrivals and list, refused or not: no two answers say the
-- same, and the whole list at the exit is given. `Learnt` is what a caller learns from the contract in the source. Assumes nothing.
use mathlib.Core.Path.{◌∙⁻¹◌, ap, Σ_path}
use Rattle.rules.proofs.Settle.{Settled, same}
use Rattle.rules.proofs.SaysOnce.{ran_says_once}
use Rattle.engine.specs.contracts as contracts
use Rattle.engine.proofs as calls

-- of the four parameters the last alone can be changed
pub run : Settled contracts.run.ended calls.run.Reads.Learnt
run κs args o p e f =
    Σ_path (same ran_says_once e.answer f.answer) (ap (λ list. (tt, (tt, (tt, (list, tt))))) (e.list ∙⁻¹ f.list))
