mod HitLaws
mod MotifUse
mod MoleculeUse
mod PlanLaws
mod AnswerLaws
mod Telling
mod Cleaned
