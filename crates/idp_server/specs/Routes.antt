-- Which requests an identity provider serves.
use Rattle.std.specs.Prelude.{◌≡◌, ◌⊎◌, ℕ, List, codes, Option, Some, if◌then◌else◌}
use Rattle.std.specs.Str.{bytes_eq}
use Rattle.http_wire.specs.declared.method.Method.{Method}
use Rattle.http_wire.specs.declared.method.Method.TheVariants.{Post}
use Rattle.http_wire.specs.Requests.{Request}
use Rattle.service_routes.specs.declared.route.Route.{Route}
use Rattle.service_routes.specs.declared.route.Route.TheVariants.{To}
use Rattle.service_routes.specs.Routes.{checked, common_at}
use Rattle.idp_server.specs.declared.route.Service.{Service}
use Rattle.idp_server.specs.declared.route.Service.TheVariants.{SignOn, Login, Metadata, Logout, SingleLogout}

-- the service of a path, and the method that it takes
abbrev pub service_at : List ℕ → Option (Method × Service)
service_at path =
    if bytes_eq path (codes "/sso") then Some (Post, SignOn)
    else if bytes_eq path (codes "/login") then Some (Post, Login)
    else common_at Metadata Logout SingleLogout path

abbrev pub route : Request → Route Service
route request = checked request (service_at request.path)

-- a user who leaves, or a message of a logout
abbrev pub IsOfALogout : Request → Type 0
IsOfALogout request = (route request ≡ To Logout) ⊎ (route request ≡ To SingleLogout)
