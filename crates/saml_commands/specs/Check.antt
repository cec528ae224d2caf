-- What `check CONFIG BODYFILE NOW` answers: the verdict on a posted form, over the rows that the config names.
use Rattle.std.specs.Prelude.{◌≡◌, ℕ, ◌⊎◌, List, [], ◌++◌, map, Option, None, true, codes}
use Rattle.std.specs.List.{flat_map}
use Rattle.owned_values.specs.declared.attributes.Attribute.{Attribute}
use Rattle.saml_outside.specs.Files.{File}
use Rattle.verdict_codes.specs.declared.codes.Verdict.{Verdict}
use Rattle.request_rows.specs.Rows.{RowsView}
use Rattle.request_rows.specs.declared.row.AskedRow.{AskedRow}
use Rattle.request_rows.specs.declared.row.OpenedRow.{OpenedRow}
use Rattle.request_rows.specs.declared.row.NewSession.{NewSession}
use Rattle.provider_config.specs.declared.config.AskedLine.{AskedLine}
use Rattle.provider_config.specs.declared.config.OpenedLine.{OpenedLine}
use Rattle.provider_config.specs.declared.line.Purpose.TheVariants.{Check}
use Rattle.sp_rules.specs.declared.accepted.Accepted.{Accepted}
use Rattle.sp_rules.specs.declared.config.SpConfig.{SpConfig}
use Rattle.sp_rules.specs.declared.config.TheConstants.{FIRST}
use Rattle.sp_rules.specs.Shown.{IsOpening}
use Rattle.sp_rules.specs.Verdict.{IsRefused}
use Rattle.sp_setup.specs.Setup.{Setup, IsSetUp, IsBadSetUp}
use Rattle.record_lines.specs.Escapes.{escaped}
use Rattle.saml_commands.specs.Answers.{Answer, Printed, Refused, BadFile}
use Rattle.saml_commands.specs.declared.limits.TheConstants.{GREATEST_BODY}
use Rattle.saml_commands.specs.Reading.{OfFile}

-- WHAT IS PRINTED

-- the line of a value of the attribute of this name
abbrev pub attribute_line : List ℕ → List ℕ → List ℕ
attribute_line name value = codes "attribute " ++ escaped name ++ codes " " ++ escaped value ++ codes "\n"

-- a line for each value of an attribute
abbrev pub attribute_lines : Attribute → List ℕ
attribute_lines attribute = flat_map (attribute_line attribute.name) attribute.values

-- what is printed of a session
abbrev pub session_lines : NewSession → List ℕ
session_lines session =
    codes "accepted\nname " ++ escaped session.name ++ codes "\n" ++ flat_map attribute_lines session.attributes

-- THE ROWS

abbrev pub asked_row_of : AskedLine → AskedRow
asked_row_of line = record { request = line.request; relay = line.relay; target = line.target; until = line.until }

-- a session that is over: nothing is known of it but what it answered
abbrev pub opened_row_of : OpenedLine → OpenedRow
opened_row_of line = record {
  request = line.request;
  issuer = line.issuer;
  assertion = line.assertion;
  assertion_until = line.until;
  token = [];
  name = [];
  index = None;
  attributes = [];
  until = 0;
  closed = true;
  key = FIRST;
}

-- the rows that a config names, in the order of its lines. For how many more there is room plays no part: for none.
abbrev pub rows_of : List AskedLine → List OpenedLine → RowsView
rows_of asked opened = record {
  asked = map asked_row_of asked;
  opened = map opened_row_of opened;
  left = [];
  spare = record { asked = 0; opened = 0; left = 0 };
}

-- WHAT IS ANSWERED

-- A form is answered with the session that it opens, or with its verdict. No row was dropped before, so the horizon is 0.
abbrev pub OfJudged : RowsView → SpConfig → ℕ → List ℕ → Answer → Type 0
OfJudged rows config now body answer =
    ((accepted : Accepted) × IsOpening config rows 0 now body accepted × (answer ≡ Printed (session_lines accepted.session)))
    ⊎ ((verdict : Verdict) × IsRefused config rows 0 now body verdict × (answer ≡ Refused verdict))

-- The config and the files that it names come first, and then the form. Its policy and the end of its registry decide nothing.
abbrev pub OfCheck : Option (List File) → List ℕ → List ℕ → ℕ → Answer → Type 0
OfCheck told file body now answer =
    ((bad : List ℕ) × (line : ℕ) × IsBadSetUp told Check file bad line × (answer ≡ BadFile bad line))
    ⊎ ((setup : Setup) × IsSetUp told Check file setup
    × OfFile (OfJudged (rows_of setup.lines.asked setup.lines.opened) setup.config now) told body GREATEST_BODY answer)
