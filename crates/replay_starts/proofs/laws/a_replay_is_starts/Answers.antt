use Rattle.replay_starts.proofs.Replaying.{a_replay_is_starts}
use Rattle.replay_starts.proofs.laws.a_replay_is_starts.Goals as goal

pub returns : goal.returns
returns g c =
    a_replay_is_starts g.S.Rows.Standing.rules g.S.Role.answers g.P.Rows.Standing.rules g.P.Role.answers
