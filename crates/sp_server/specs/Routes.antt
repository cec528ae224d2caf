-- Which requests a service provider serves.
use Rattle.std.specs.Prelude.{ℕ, nat_eq, nat_le, Bool, ◌&&◌, List, codes, length, Option, Some, if◌then◌else◌}
use Rattle.std.specs.List.{list_all, starts_with}
use Rattle.std.specs.Str.{bytes_eq}
use Rattle.http_wire.specs.declared.method.Method.{Method}
use Rattle.http_wire.specs.declared.method.Method.TheVariants.{Get, Post}
use Rattle.http_wire.specs.Requests.{Request}
use Rattle.service_routes.specs.declared.route.Route.{Route}
use Rattle.service_routes.specs.declared.route.Route.TheVariants.{To, Refused}
use Rattle.service_routes.specs.Routes.{checked, common_at}
use Rattle.sp_server.specs.declared.route.Service.{Service}
use Rattle.sp_server.specs.declared.route.Service.TheVariants.{App, Consumer, Metadata, Logout, SingleLogout, Guard}
use Rattle.access_policy.specs.Line.{is_app, is_path_byte}

-- /auth, and a path behind it
abbrev pub is_guarded : List ℕ → Bool
is_guarded path = starts_with nat_eq path (codes "/auth/")

-- a path to which a user can be sent back: at most 256 letters, digits, `.`, `_`, `~`, `/` and `-`
abbrev pub is_target : List ℕ → Bool
is_target path = nat_le (length path) 256 && list_all is_path_byte path

-- the service of a path, and the method that it takes
abbrev pub service_at : List ℕ → Option (Method × Service)
service_at path =
    if is_app path then Some (Get, App)
    else if bytes_eq path (codes "/acs") then Some (Post, Consumer)
    else common_at Metadata Logout SingleLogout path

-- 404 for a path of the application to which no user can be sent back
abbrev pub at_target : List ℕ → Route Service → Route Service
at_target path (To App) = if is_target path then To App else Refused 404
at_target path other = other

-- A request goes to the service of its path. Or a proxy asks who a request comes from: what it is answered, and whether
-- it is, the guard says.
abbrev pub route : Request → Route Service
route request =
    if is_guarded request.path then To Guard else at_target request.path (checked request (service_at request.path))
