mod FileLaws
mod WorkedFiles
