mod HexLaws
mod JumpLaws
