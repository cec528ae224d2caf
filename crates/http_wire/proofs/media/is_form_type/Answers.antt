use Rattle.std.proofs.Common.{◌≡◌, ◌==◌, reverse, codes, ap, ◌∙◌}
use Rattle.std.specs.List.{before_first}
use Rattle.std.specs.Str.{bytes_eq, str_to_ascii_lowercase}
use Rattle.httparse.specs.Grammar.{skip_ows, trim_ows}
use Rattle.http_wire.specs.Cookies.{media_type}
use Rattle.http_wire.proofs.Naming.{same_test}
use Rattle.http_wire.proofs.media.is_form_type.Goals as goal

pub returns : goal.returns
unfolding trim_ows
returns c =
    let same : c.cut_ows.result.now ≡ media_type c.args.content_type.now =
    c.cut_ows.ensures
    ∙ ap (λ xs. reverse (skip_ows (reverse xs)))
    (c.skip_ows.ensures ∙ ap skip_ows (c.before_first-media_type.ensures ∙ ap (λ xs. before_first (λ b. b == 59) xs) c.as_bytes.ensures.value)) in
    same_test c.eq_ignore_ascii_case.result (str_to_ascii_lowercase c.cut_ows.result.now) (str_to_ascii_lowercase (codes "application/x-www-form-urlencoded"))
    c.eq_ignore_ascii_case.ensures.test.0 c.eq_ignore_ascii_case.ensures.test.1
    ∙ ap (λ xs. bytes_eq (str_to_ascii_lowercase xs) (str_to_ascii_lowercase (codes "application/x-www-form-urlencoded"))) same
