-- Lasso files of both forms as plain data.
use Rattle.lasso_check.specs.Lassos.{Lasso}

-- a lasso with the form of its file, by which its turn is meant to lead back, or to move on
pub data LassoFile : Type 0 where
  FirstForm : Lasso → LassoFile
  SecondForm : Lasso → LassoFile

-- the lasso of a file
abbrev pub lasso_in : LassoFile → Lasso
lasso_in (FirstForm l) = l
lasso_in (SecondForm l) = l
