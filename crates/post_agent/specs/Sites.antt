-- The two nodes, as a user agent reaches them.
use Rattle.std.specs.Prelude.{ℕ, nat_eq, List, ◌++◌, codes, Option, None, Some, option_and_then, if◌then◌else◌}
use Rattle.std.specs.List.{starts_with}
use Rattle.std.specs.Option.{option_map, option_map_or}
use Rattle.post_agent.specs.declared.site.Site.{Site}
use Rattle.post_agent.specs.declared.site.Site.TheVariants.{Sp, Idp}
use Rattle.post_agent.specs.Cuts.{behind}

-- RFC 9110, 7.2: the host and the port
abbrev pub host_of : Site → List ℕ
host_of Sp = codes "127.0.0.1:8081"
host_of Idp = codes "127.0.0.1:8080"

-- RFC 3986, 3.3: behind a host a path that is not empty begins with a slash
abbrev pub rooted : List ℕ → Option (List ℕ)
rooted path = if starts_with nat_eq path (codes "/") then Some path else None

-- RFC 9110, 4.2.1: a URL is a node's where it is the scheme, its host and a path
abbrev pub path_of : Site → List ℕ → Option (List ℕ)
path_of site url = option_and_then rooted (behind (codes "http://" ++ host_of site) url)

-- the node of a URL, and the path there, none where the URL is neither node's
abbrev pub place_of : List ℕ → Option (Site × List ℕ)
place_of url =
    option_map_or (λ path. Some (Sp, path)) (path_of Sp url) (option_map (λ path. (Idp, path)) (path_of Idp url))
