-- The definitions of a guard at worked examples.
use Rattle.std.specs.Prelude.{◌≡◌, true, false, [], ◌∷◌, codes, None, refl}
use Rattle.http_wire.specs.declared.answer.Answer.TheVariants.{Fixed}
use Rattle.http_wire.specs.declared.method.Method.TheVariants.{Get, Post}
use Rattle.sp_server.specs.Guard.{guard_answer, is_plain, path_asked, segments}
use Rattle.service_routes.specs.declared.route.Route.TheVariants.{To, Refused}
use Rattle.sp_server.specs.declared.route.Service.TheVariants.{Guard}
use Rattle.sp_server.specs.Routes.{route}

-- a path behind /auth is asked for, whatever it is; /auth alone is none
asked : (path_asked (codes "/auth/app/x") ≡ codes "/app/x") × (path_asked (codes "/auth/%2e%2e/") ≡ codes "/%2e%2e/")
    × (path_asked (codes "/auth//") ≡ codes "//")
    × (route (record { method = Post; path = codes "/auth/"; cookie = None; content_type = None; body = [] }) ≡ To
    Guard)
    × (route (record { method = Get; path = codes "/auth"; cookie = None; content_type = None; body = [] }) ≡ Refused
    404)
    × (route (record { method = Get; path = codes "/authapp"; cookie = None; content_type = None; body = [] }) ≡ Refused
    404)
asked = (refl, refl, refl, refl, refl, refl)

-- the segments of a path stand behind its slashes
parts : (segments (codes "/app") ≡ codes "app" ∷ []) × (segments (codes "/app/a/") ≡ codes "app" ∷ codes "a" ∷ [] ∷ [])
parts = (refl, refl)

-- dots in names are plain, dot-segments are not; the last segment alone may be empty; /app and what is below it,
-- without escapes
plain : (is_plain (codes "/app") ≡ true) × (is_plain (codes "/app/") ≡ true) × (is_plain (codes "/app/a/b/") ≡ true)
    × (is_plain (codes "/app/..a/.b/c..") ≡ true)
    × (is_plain (codes "/app/.") ≡ false) × (is_plain (codes "/app/..") ≡ false)
    × (is_plain (codes "/app/../x") ≡ false) × (is_plain (codes "/app/./x") ≡ false)
    × (is_plain (codes "/app//x") ≡ false) × (is_plain (codes "/app//") ≡ false) × (is_plain (codes "/") ≡ false)
    × (is_plain (codes "/apps") ≡ false) × (is_plain (codes "/app/%41") ≡ false)
plain = (refl, refl, refl, refl, refl, refl, refl, refl, refl, refl, refl, refl, refl)

-- without a guard each is 404; a guard takes GET alone, and no session is 401
refused : (guard_answer false None (record {
  method = Get;
  path = codes "/auth/app";
  cookie = None;
  content_type = None;
  body = [];
}) None ≡ Fixed 404)
    × (guard_answer true None (record {
      method = Post;
      path = codes "/auth/app";
      cookie = None;
      content_type = None;
      body = [];
    }) None ≡ Fixed 405)
    × (guard_answer true None (record {
      method = Get;
      path = codes "/auth/app";
      cookie = None;
      content_type = None;
      body = [];
    }) None ≡ Fixed 401)
refused = (refl, refl, refl)
