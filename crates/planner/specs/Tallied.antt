-- The tally of the lines.
use Rattle.std.specs.Prelude.{ℕ, ◌+◌, ◌-◌, ◌^◌, min, Ok, Err, Result}
use Rattle.planner.specs.declared.rejection.Rejection.{Rejection}
use Rattle.planner.specs.declared.rejection.Rejection.TheVariants.{Refused, NoBytes}
use Rattle.planner.specs.declared.summary.Summary.{Summary}
use Rattle.planner.specs.declared.tally.Tally.{Tally}

abbrev pub none : Tally
none = record { lines = 0; accepted = 0; refused = 0; no_bytes = 0 }

-- one more, up to the most that 64 bits hold
abbrev pub more : ℕ → ℕ
more n = min (n + 1) (2 ^ 64 - 1)

-- the tally with one line more, by what became of it
abbrev pub counted : Result Summary Rejection → Tally → Tally
counted (Ok s) t = record { lines = more t.lines; accepted = more t.accepted; refused = t.refused; no_bytes = t.no_bytes }
counted (Err (Refused size f advice)) t = record { lines = more t.lines; accepted = t.accepted; refused = more t.refused; no_bytes = t.no_bytes }
counted (Err (NoBytes bad)) t = record { lines = more t.lines; accepted = t.accepted; refused = t.refused; no_bytes = more t.no_bytes }
