-- The page of a user whom a rule denies.
use Rattle.std.specs.Prelude.{ℕ, List, ◌++◌, codes}
use Rattle.post_binding.specs.Html.{escape}
use Rattle.post_binding.specs.Pages.{head, tail}

-- what names the rule that denied a page
abbrev pub denied_page : List ℕ → List ℕ
denied_page rule = head ++ codes "<p>Denied by " ++ escape rule ++ codes "</p>" ++ tail
