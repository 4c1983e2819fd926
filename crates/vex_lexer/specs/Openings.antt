-- What begins at a place: bytes between tokens, a token, or nothing.
use Rattle.std.specs.Prelude.{ℕ, ◌<◌, ◌⊎◌, List, IsTrue, IsFalse}
use Rattle.vex_lexer.specs.declared.opening.Opening.{Opening}
use Rattle.vex_lexer.specs.declared.opening.Opening.TheVariants.{Between, Word, Nothing}
use Rattle.vex_lexer.specs.Longest.{IsLongest}
use Rattle.vex_lexer.specs.Words.{begins, is_token}
use Rattle.sop_outside.specs.Blanks.{is_blank}
use Rattle.vex_lexer.specs.Gaps.{is_comment, begins_comment}
use Rattle.vex_lexer.specs.Spelling.{IsBetween}

-- Nothing begins where neither a blank, nor a whole comment, nor a token does.
abbrev pub IsOpening : List ℕ → Opening → Type 0
IsOpening rest (Between len) = IsBetween rest len
IsOpening rest (Word len) = (0 < len) × IsFalse (begins_comment rest) × IsLongest is_token rest len
IsOpening rest Nothing = IsFalse (begins is_blank rest)
    × ((IsTrue (begins_comment rest) × IsLongest is_comment rest 0) ⊎ (IsFalse (begins_comment rest) × IsLongest is_token rest 0))
