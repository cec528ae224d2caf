-- What stands behind an answer.
use Rattle.std.specs.Prelude.{◌≡◌, ◌⊎◌}
use Rattle.http_wire.specs.Requests.{Request}
use Rattle.service_routes.specs.declared.route.Route.TheVariants.{To}
use Rattle.identity_hub.specs.declared.route.Service.TheVariants.{SignOn, Consumer}
use Rattle.identity_hub.specs.Routes.{route}

-- A request that goes to a service to which something is posted: a request for a login, or a response. What is answered
-- to it has its record in every image that a crash may leave: so each request upwards and each login that is passed on.
abbrev pub IsPosted : Request → Type 0
IsPosted request = (route request ≡ To SignOn) ⊎ (route request ≡ To Consumer)
