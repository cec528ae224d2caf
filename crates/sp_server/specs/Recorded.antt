-- What stands behind an answer.
use Rattle.std.specs.Prelude.{◌≡◌, ◌⊎◌, ℕ, List, Option, None}
use Rattle.crash_disk.specs.Counts.{Rose}
use Rattle.crash_disk.specs.Disk.{DiskState}
use Rattle.http_wire.specs.declared.answer.Answer.TheVariants.{Full}
use Rattle.http_wire.specs.Requests.{Request}
use Rattle.request_ledger.specs.Ledger.{Held}
use Rattle.request_ledger.specs.Record.{request_rules}
use Rattle.provider_node.specs.Recorded.{IsRecorded}
use Rattle.service_routes.specs.declared.route.Route.TheVariants.{To}
use Rattle.sp_server.specs.declared.route.Service.TheVariants.{App, Consumer, Logout, SingleLogout}
use Rattle.sp_server.specs.Routes.{route}
use Rattle.sp_server.specs.Step.{Provider, Answers, session_for}
use Rattle.provider_node.specs.Step.{Serves, OwnsDisk}

-- A request that goes to a service to which something is posted: a form with a login, that a user leaves, a message of
-- a logout. What is answered to it has its record in every image that a crash may leave: so each LogoutRequest and each
-- LogoutResponse that is sent has the ID of a record that is kept.
abbrev pub IsPosted : Request → Type 0
IsPosted request =
    (route request ≡ To Consumer) ⊎ ((route request ≡ To Logout) ⊎ (route request ≡ To SingleLogout))

-- A form that asks for a login is recorded before it is sent: what is answered at the application where no session
-- lives over the ledger that is found.
abbrev pub WhatIsAskedIsRecorded : Type 0
WhatIsAskedIsRecorded =
    (found : Held) (request : Request) (now before after : ℕ) (bytes : List ℕ) (old new : Provider)
    (later : Option DiskState)
    → Serves request_rules Answers found request now (Rose before after) (Full bytes) old new
    → OwnsDisk request_rules new later → route request ≡ To App → session_for found now request ≡ None
    → IsRecorded request_rules Answers old.setup request now (Full bytes) later
