-- The notes of a plan file: its leading part; on a refusal that part is empty (01, Torus and plan file).
use Rattle.std.specs.Prelude.{List, [], ℕ, take}
use Rattle.refusal.specs.Answer.{Answer, Done, Refused}
use Rattle.file.specs.Layout.{trailer_of}
use Rattle.plan.specs.Refusals.{plan_answer}

abbrev pub notes_by : Answer → List ℕ → List ℕ
notes_by (Done v) file = take (trailer_of file).start file
notes_by (Refused number place) file = []

unfoldable pub notes_of : List ℕ → List ℕ
notes_of file = notes_by (plan_answer file) file
