-- The fault by which the reading that is defined ends.
use Rattle.std.proofs.Common.{◌≡◌, IsErrAnd, Err, Result, ap}
use Rattle.std.proofs.lemmas.Result.{err_from_is_err_and}
use Rattle.std.specs.Result.{result_map_both}
use Rattle.floor.specs.Checks.{◌>>=◌}
use Rattle.mapfile.specs.declared.fault.Fault.{Fault}

-- it is passed on at the exit of a `?`
pub passed_on : {X Y : Type 0} (means : X → Y) (defined : Result Y Fault) (r : Result X Fault) (f : Fault) → defined ≡ Err f → IsErrAnd r (λ e. e ≡ f) → defined ≡ result_map_both means (λ f. f) r
passed_on means defined r f is exits = let exit = err_from_is_err_and r exits in rw (exit.1, exit.2) is

-- a stage of the reading fails, and so the reading
pub stage_fault : {W Y : Type 0} (stage : Result W Fault) (next : W → Result Y Fault) (f : Fault) → stage ≡ Err f → (stage >>= next) ≡ Err f
stage_fault stage next f h = ap (λ x. x >>= next) h
