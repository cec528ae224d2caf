-- Which requests a hub serves.
use Rattle.std.specs.Prelude.{ℕ, List, codes, Option, None, Some, if◌then◌else◌}
use Rattle.std.specs.Str.{bytes_eq}
use Rattle.http_wire.specs.declared.method.Method.{Method}
use Rattle.http_wire.specs.declared.method.Method.TheVariants.{Get, Post}
use Rattle.http_wire.specs.Requests.{Request}
use Rattle.metadata.specs.declared.peer.Role.TheVariants.{Idp, Sp}
use Rattle.service_routes.specs.declared.route.Route.{Route}
use Rattle.service_routes.specs.Routes.{checked}
use Rattle.identity_hub.specs.declared.route.Service.{Service}
use Rattle.identity_hub.specs.declared.route.Service.TheVariants.{SignOn, Consumer, Metadata}

-- the service of a path, and the method that it takes: SAML Metadata, 2.4.3 and 2.4.4
abbrev pub service_at : List ℕ → Option (Method × Service)
service_at path =
    if bytes_eq path (codes "/sso") then Some (Post, SignOn)
    else if bytes_eq path (codes "/acs") then Some (Post, Consumer)
    else if bytes_eq path (codes "/metadata") then Some (Get, Metadata Idp)
    else if bytes_eq path (codes "/metadata/sp") then Some (Get, Metadata Sp)
    else None

abbrev pub route : Request → Route Service
route request = checked request (service_at request.path)
