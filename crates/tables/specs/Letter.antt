-- The letter that a value of the code stands for, and what a check of each letter asks of its closure. Assumes nothing.
use Rattle.std.specs.Prelude.{◌≡◌, List}
use Rattle.as5506.specs.Answers.{Refusal}
use Rattle.as5506.specs.Tables.{Letter as TheLetter, letter_n, letter_c, letter_f, letter_x, letter_p, letter_i, letter_t, letter_q, letter_u, letter_e, letter_r, letter_m}
use Rattle.tables.specs.declared.letter.Letter.{Letter}
use Rattle.tables.specs.declared.letter.Letter.TheVariants.{N, C, F, X, P, I, T, Q, U, E, R, M}
use Rattle.tables.specs.Answer.{Checked, checked}

abbrev pub letter_of : Letter → TheLetter
letter_of N = letter_n
letter_of C = letter_c
letter_of F = letter_f
letter_of X = letter_x
letter_of P = letter_p
letter_of I = letter_i
letter_of T = letter_t
letter_of Q = letter_q
letter_of U = letter_u
letter_of E = letter_e
letter_of R = letter_r
letter_of M = letter_m

-- what a call at a letter gives is the first of its faults
pub record Gives (post : Letter → Checked → Type 0) (faults_of : TheLetter → List Refusal) : Type 0 where
  pub gives : (l : Letter) (r : Checked) → post l r → r ≡ checked (faults_of (letter_of l))
