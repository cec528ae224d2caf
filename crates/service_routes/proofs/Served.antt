-- What holds of each status that is answered in place of a service.
use Rattle.std.specs.Prelude.{Option, None, Some, if◌then◌else◌}
use Rattle.std.proofs.Common.{ℕ, Bool, true, false}
use Rattle.http_wire.specs.declared.method.Method.{Method}
use Rattle.http_wire.specs.Requests.{Request}
use Rattle.service_routes.specs.declared.route.Route.{Route}
use Rattle.service_routes.specs.declared.route.Route.TheVariants.{To, Refused}
use Rattle.service_routes.specs.Routes.{is_method, is_typed, checked}

-- a request goes to a service, or this holds of the status that is answered in its place
abbrev pub IsServed : {S : Type 0} → (ℕ → Type 0) → Route S → Type 0
IsServed Holds (To service) = Unit {0}
IsServed Holds (Refused status) = Holds status

pub chosen : {S : Type 0} (Holds : ℕ → Type 0) (b : Bool) (one other : Route S) → IsServed Holds one
    → IsServed Holds other → IsServed Holds (if b then one else other)
chosen Holds true one other h k = h
chosen Holds false one other h k = k

pub checked_served : {S : Type 0} (Holds : ℕ → Type 0) → Holds 404 → Holds 405 → Holds 415 → (request : Request)
    (o : Option (Method × S)) → IsServed Holds (checked request o)
checked_served Holds none other untyped request None = none
checked_served Holds none other untyped request (Some (method, service)) =
    chosen Holds (is_method method request.method)
    (if is_typed method request.content_type then To service else Refused 415) (Refused 405)
    (chosen Holds (is_typed method request.content_type) (To service) (Refused 415) tt untyped) other
