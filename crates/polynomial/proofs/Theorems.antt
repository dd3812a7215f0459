-- What holds of P of every word.
use Rattle.std.proofs.Common.{◌∷◌, [], arith}
use Rattle.polynomial.specs.Theorems.{BracketPolynomials}
use Rattle.polynomial.proofs.Rules.{P_lyndon, P_factors}
use Rattle.polynomial.proofs.Leading as leading
use Rattle.polynomial.proofs.Parts.{P_short, P_bound}

pub bracket_polynomials : BracketPolynomials
bracket_polynomials = record {
  letter = λ a. P_short (a ∷ []) (omega arith);
  lyndon = P_lyndon;
  factors = P_factors;
  leads = leading.leads;
  bound = P_bound;
}
