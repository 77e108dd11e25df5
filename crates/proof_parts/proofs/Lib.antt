mod LineLaws
mod CutLaws
